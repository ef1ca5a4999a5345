-- A checked model as a machine: its first state, its moves, its steps, and the texts: where processes may end, the texts of moves and where they
-- come from, and of the processes where a run does not end well. What is not there has no text.
-- Hold it against chapter 7 of the book; the page `end`; docs/FORMATS.md, 'Lines on standard output'.
use Rattle.std.specs.Prelude.{Bool, true, ◌&&◌, [], ◌∷◌, Option, Some, None, ℕ, List, ◌++◌, if◌then◌else◌, slice_get, codes, length, take, Result, Ok, Err, option_map, option_and_then}
use Rattle.std.specs.List.{list_any, list_all}
use Rattle.pml_program.specs.declared.program.Stmt.{Stmt}
use Rattle.std.specs.Option.{option_map_or}
use Rattle.pml_program.specs.declared.program.Seq.{Seq}
use Rattle.pml_program.specs.declared.program.Program.{Program}
use Rattle.promela_process.specs.Control.{Position, Control, Todo, steps, at, all_of, settle}
use Rattle.promela_process.specs.Offers.{any_end, same_position, Offer, line_at}
use Rattle.promela_run.specs.State.{Stand, State, body_of, picked}
use Rattle.std.specs.Fmt.{decimal}
use Rattle.profile.specs.Characters.{line_feed}
use Rattle.pml_program.specs.declared.program.Proctype.{Proctype}
use Rattle.promela_run.specs.Lines.{proctype_name, value_lines}
use Rattle.promela_run.specs.declared.moves.Pick.{Pick}
use Rattle.promela_run.specs.declared.moves.Move.{Move}
use Rattle.promela_run.specs.declared.moves.Move.TheVariants.{Death, Alone, Pair}
use Rattle.promela_run.specs.Moves.{each}
use Rattle.promela_process.specs.Store.{Frame}
use Rattle.promela_run.specs.declared.halt.Halt.{Halt}
use Rattle.diagnostics.specs.declared.fault.Fault.{Fault}
use Rattle.promela_machine.specs.Machine.{Rules, Outcome, Goes, Faults}
use Rattle.promela_run.specs.Moves as search
use Rattle.profile.specs.declared.TheConstants.{MOST_DSTEP_STATEMENTS}
use Rattle.promela_run.specs.Steps.{sorts}
use Rattle.promela_run.specs.Steps as outcome

-- the place of the statement that stands first, if one does
abbrev pub standing : Control → Option Position
standing (Todo p s ∷ c) = Some p
standing _ = None

-- a statement has a label that begins with `end`, and its place leads to c without a step
abbrev pub is_end_place : Seq → Control → Position × Stmt → Bool
is_end_place b c e = any_end e.1.labels && same_position (standing (settle b (at (steps b) e.0))) (standing c)

-- A process may end at the closing brace, and where such a label of its body leads.
abbrev pub may_end : Seq → Control → Bool
may_end b [] = true
may_end b (f ∷ c) = list_any (is_end_place b (f ∷ c)) (all_of b)

-- a process may end where it stands; where there is no body, nothing is left to do
abbrev pub is_done : Program → Stand → Bool
is_done pr y = option_map_or (λ b. may_end b y.control) (body_of pr y.sort) true

-- a run that ends here ends well
abbrev pub is_valid : State → Bool
is_valid s = list_all (is_done s.program) s.stands

-- ---- texts

-- the proctype of process p
abbrev pub sort_of_process : State → ℕ → Option Proctype
sort_of_process s p = option_and_then (λ y. slice_get s.program.proctypes y.sort) (slice_get s.stands p)

-- `proc P (NAME) `
abbrev pub heading : ℕ → Proctype → List ℕ
heading p q = codes "proc " ++ (decimal p ++ (codes " (" ++ (proctype_name q.name ++ codes ") ")))

-- `line L`
abbrev pub line : ℕ → List ℕ
line n = codes "line " ++ decimal n

-- ---- moves

-- the text of an offer of a process, behind its heading
abbrev pub offer_with_heading : ℕ → Option Proctype → Option Offer → List ℕ
offer_with_heading p (Some q) (Some o) = heading p q ++ o.text
offer_with_heading p q o = []

-- `proc P (NAME) line L [TEXT]`
abbrev pub pick_text : State → Pick → List ℕ
pick_text s k = offer_with_heading k.process (sort_of_process s k.process) (picked s k)

-- `proc P (NAME) line L [-end-]`, with the line of the closing brace
abbrev pub death_text : ℕ → Option Proctype → List ℕ
death_text p None = []
death_text p (Some q) = heading p q ++ (line q.end.line ++ codes " [-end-]")

-- of a rendezvous, the sender's and then the receiver's
abbrev pub move_text : State → Move → List ℕ
move_text s (Death p) = death_text p (sort_of_process s p)
move_text s (Alone k t) = pick_text s k
move_text s (Pair k j t) = pick_text s k ++ (codes " -> " ++ pick_text s j)

-- ---- where moves come from

-- the line in the text of an offer that is picked
abbrev pub line_of : State → Pick → ℕ
line_of s k = option_map_or (λ o. o.line) (picked s k) 0

-- P and L of a move's text: of a death the line of the closing brace, of a rendezvous the sender's
abbrev pub origin_of : State → Move → ℕ × ℕ
origin_of s (Death p) = (p, option_map_or (λ q. q.end.line) (sort_of_process s p) 0)
origin_of s (Alone k t) = (k.process, line_of s k)
origin_of s (Pair k j t) = (k.process, line_of s k)

-- ---- where a run does not end well

-- `at: proc P (NAME) line L`, where process p may not end, with the line of what stands first
abbrev pub stuck_at : ℕ → Option Proctype → Control → List ℕ
stuck_at p None c = []
stuck_at p (Some q) c =
    if may_end q.body c then []
    else codes "at: " ++ (heading p q ++ (line (line_at q.body q.end.line c) ++ line_feed ∷ []))

-- of each process where it stands, in their order
abbrev pub stuck : State → List ℕ
stuck s = each (λ p y. stuck_at p (slice_get s.program.proctypes y.sort) y.control) 0 s.stands

-- ---- the machine

-- A state; what the variables that are still there held before the last step; and the move that was not taken to its end, if one was
-- not: nothing is done from there on.
pub record Running : Type 0 where
  pub state : State
  pub past : List Frame
  pub halt : Option Halt

-- before the first step nothing has changed
abbrev pub first : State → Bool → Running
first s lossy = record { state = record s { lossy = lossy }; past = s.frames; halt = None }

-- ---- its moves, its steps, and the texts

-- the moves of a state, in order; none, where it has stopped
abbrev pub world_moves : Running → List Move
world_moves w = option_map_or (λ h. []) w.halt (search.moves w.state)

-- a state that a step leads to, and what it printed; or its fault
abbrev pub led_to : List Frame → Result outcome.Done Fault → Outcome Running
led_to frames (Ok d) = Goes (record { state = d.state; past = take (length d.state.frames) frames; halt = None }) d.printed
led_to frames (Err f) = Faults f

-- what a move leads to
abbrev pub world_step : Running → Move → Outcome Running
world_step w m = led_to w.state.frames (outcome.after_move MOST_DSTEP_STATEMENTS w.state m)

-- the variables before the last step and now, compared
abbrev pub changed_lines : Running → Bool → Bool → List ℕ
changed_lines w globals locals = value_lines w.state.program (sorts w.state) w.past w.state.frames globals locals

-- a checked model as the machine that a session plays; it tells the move at which it has stopped, and why
abbrev pub rules : Rules Running Move
rules = record {
  moves = world_moves;
  step = world_step;
  stopped = λ w. option_map (λ h. record { move = h.at; why = h.why }) w.halt;
  text = λ w m. move_text w.state m;
  origin = λ w m. origin_of w.state m;
  values = changed_lines;
  is_valid = λ w. is_valid w.state;
  stuck = λ w. stuck w.state;
}
