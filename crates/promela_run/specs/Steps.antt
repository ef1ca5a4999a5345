-- What may change in a state, processes that are made by `run`, and what a move leads to.
-- Hold it against chapter 7 of the book; the pages `d_step`, `run`, `printf` and `assert`.
use Rattle.std.specs.Prelude.{ℕ, if◌then◌else◌, nat_lt, length, map, List, [], ◌∷◌, ◌++◌, ℤ, pos, Option, Some, None, Result, Ok, slice_get, ◌-◌, not, nat_eq, take, slice_set, zero, suc, Bool, true, false, Err}
use Rattle.profile.specs.declared.TheConstants.{MOST_PROCESSES}
use Rattle.diagnostics.specs.declared.fault.Fault.{Fault}
use Rattle.pml_program.specs.declared.program.Seq.{Seq}
use Rattle.pml_program.specs.declared.program.Proctype.{Proctype}
use Rattle.pml_program.specs.declared.program.Run.{Run}
use Rattle.promela_process.specs.Expressions.{Reading, ◌>>=◌, val, asked_by}
use Rattle.promela_run.specs.Statements.{values, Received, created, outcome, goes_to, sent, received, stores, asserted}
use Rattle.promela_run.specs.State.{Stand, State, first_control, reads, body_of, levels, picked}
use Rattle.std.specs.List.{filter}
use Rattle.std.specs.Option.{option_map_or}
use Rattle.promela_process.specs.Control.{Control}
use Rattle.promela_process.specs.Offers.{Offer}
use Rattle.promela_process.specs.Store.{with_number}
use Rattle.promela_run.specs.declared.live_channel.LiveChannel.{LiveChannel}
use Rattle.promela_run.specs.declared.goes.Goes.{Goes}
use Rattle.diagnostics.specs.declared.fault.Fault.TheVariants.{DStepBlocks, DStepTooLong}
use Rattle.pml_program.specs.declared.expr.Target.{Target}
use Rattle.pml_program.specs.declared.program.Action.{Action}
use Rattle.pml_program.specs.declared.program.Action.TheVariants as a
use Rattle.pml_program.specs.declared.program.Basic.{Basic, Plain, DStep}
use Rattle.promela_run.specs.Lines.{name_of_number, printed}
use Rattle.promela_run.specs.declared.moves.Pick.{Pick}
use Rattle.promela_run.specs.declared.moves.Move.{Move}
use Rattle.promela_run.specs.declared.moves.Move.TheVariants.{Death, Alone, Pair}
use Rattle.promela_run.specs.Moves.{Message, message, choices}

-- a number is stored
abbrev pub put : State → Goes → State
put s g = record s { frames = with_number s.frames g.place g.number }

-- a number in its cell, where there is one to store, or the fault
abbrev pub put_by : State → Result (Option Goes) Fault → Result State Fault
put_by s r = r >>= λ g. Ok (option_map_or (put s) g s)

-- numbers are stored from left to right
abbrev pub put_all : State → List Goes → State
put_all s [] = s
put_all s (g ∷ gs) = put_all (put s g) gs

-- the channels hold other messages
abbrev pub with_sent : State → Result (List LiveChannel) Fault → Result State Fault
with_sent s r = r >>= λ cs. Ok (record s { channels = cs })

-- what was received is stored
abbrev pub with_received : State → Result Received Fault → Result State Fault
with_received s r = r >>= λ x. Ok (record (put_all s x.numbers) { channels = x.live })

-- a process with something else to do, if it is there
abbrev pub moved_to : Control → Option Stand → ℕ → List Stand → List Stand
moved_to next None p ys = ys
moved_to next (Some y) p ys = slice_set ys p (record y { control = next })

-- a process has this left to do
abbrev pub go_to : State → ℕ → Control → State
go_to s p next = record s { stands = moved_to next (slice_get s.stands p) p s.stands }

-- a process takes an offer: it goes on, and holds exclusive control, or nobody does
abbrev pub went : State → ℕ → Offer → State
went s p o = record (go_to s p o.next) { holder = if o.keeps then Some p else None }

-- the youngest process dies, with its variables and its channels; nobody holds exclusive control
abbrev pub without_youngest : State → State
without_youngest s = record s {
  frames = take (length s.stands) s.frames;
  stands = take (length s.stands - 1) s.stands;
  channels = filter (λ (o : LiveChannel). not (nat_eq o.frame (length s.stands))) s.channels;
  holder = None;
}

-- the proctypes of the live processes, by their numbers in the model
abbrev pub sorts : State → List ℕ
sorts s = map (λ (y : Stand). y.sort) s.stands

-- a process of a proctype is created with these arguments; none, where there is no such proctype
abbrev pub with_new : State → ℕ → Option Proctype → List ℤ → Result State Fault
with_new s sort None vs = Ok s
with_new s sort (Some q) vs = created s.program.typedefs (record { sort = sort; control = first_control q.body }) q.variables vs s

-- the arguments from left to right, and then the process; where 255 live, nothing is evaluated, and none is created
abbrev pub ran : State → Reading → Run → Result State Fault
ran s r q =
    if nat_lt (length s.stands) MOST_PROCESSES then (values q.arguments r >>= with_new s q.proctype (slice_get s.program.proctypes q.proctype))
    else Ok s

-- the number that `run` is worth: that of the new process, or 0
abbrev pub run_number : State → ℤ
run_number s = if nat_lt (length s.stands) MOST_PROCESSES then pos (length s.stands) else pos 0

-- ---- what a move leads to

-- a state, and the bytes that were printed on the way
pub record Done : Type 0 where
  pub state : State
  pub printed : List ℕ

-- nothing is printed
abbrev pub quiet : State → Result Done Fault
quiet s = Ok (record { state = s; printed = [] })

-- nothing but this is done
abbrev pub prints : State → List ℕ → Result Done Fault
prints s bytes = Ok (record { state = s; printed = bytes })

-- ---- what a statement does by itself, under this `timeout`

-- the process first, then the place of its number
abbrev pub run_into : State → ℕ → Bool → Option Target → Run → Result State Fault
run_into s p t x q = ran s (reads s p t) q >>= λ now. put_by now (goes_to x (run_number s) (reads now p t))

-- what a statement without a structure does, and prints; it sends and receives by itself where channels have a capacity
abbrev pub does : State → ℕ → Bool → Action → Result Done Fault
does s p t (a.Run q) = ran s (reads s p t) q >>= quiet
does s p t (a.AssignRun x q) = run_into s p t x q >>= quiet
does s p t (a.Send q order es) = with_sent s (sent s.channels (reads s p t) q order es) >>= quiet
does s p t (a.Receive q search how ws) = with_received s (received s.channels (reads s p t) q search how ws) >>= quiet
does s p t (a.Printf text es) = values es (reads s p t) >>= λ vs. prints s (printed s.program.constants text.text vs)
does s p t (a.Printm e) = val e (reads s p t) >>= λ v. prints s (name_of_number s.program.constants v)
does s p t (a.Assert e) = asserted e (reads s p t) >>= λ u. quiet s
does s p t a.Else = quiet s
does s p t x = put_by s (outcome x (reads s p t)) >>= quiet

-- a goto, a break and what gives structure do nothing by themselves
abbrev pub effect : State → ℕ → Bool → Option Basic → Result Done Fault
effect s p t (Some (Plain x)) = does s p t x
effect s p t _ = quiet s

-- ---- inside a d_step

-- bytes that were printed before
abbrev pub behind_printed : List ℕ → Done → Result Done Fault
behind_printed bytes d = Ok (record d { printed = bytes ++ d.printed })

-- the first that can be taken, or the fault that none can
abbrev pub first_of : List Offer → (Offer → Result Done Fault) → Result Done Fault
first_of [] rest = Err DStepBlocks
first_of (o ∷ os) rest = rest o

-- on with the rest, where control is still inside
abbrev pub onward : Bool → Done → (Done → Result Done Fault) → Result Done Fault
onward true d rest = rest d
onward false d rest = Ok d

-- At each point of a body the first choice is taken until control leaves, by at most n statements. `timeout` is for the first of them.
abbrev pub within : ℕ → State → ℕ → Bool → Seq → Control → Result Done Fault
within zero s p t b c = Err DStepTooLong
within (suc n) s p t b c =
    first_of (choices s.lossy s.channels (reads s p t) (levels b c)) (λ o.
    effect s p t o.basic >>= λ d.
    onward o.stays d (λ e. within n e.state p false b o.next >>= behind_printed e.printed))

-- what the statements of a d_step do from a point on, at most so many
abbrev pub within_from : ℕ → State → ℕ → Bool → Option Seq → Option Control → Result Done Fault
within_from most s p t (Some b) (Some c) = within most s p t b c
within_from most s p t b c = quiet s

-- ---- steps

-- the body in which a process stands
abbrev pub body_by : State → Option Stand → Option Seq
body_by s None = None
body_by s (Some y) = body_of s.program y.sort

-- the statement of an offer that a process takes by itself, at most `most` of them in a d_step
abbrev pub taken : ℕ → State → Pick → Bool → Offer → Option Basic → Result Done Fault
taken most s k t o (Some (DStep d)) = within_from most s k.process t (body_by s (slice_get s.stands k.process)) o.entry
taken most s k t o x = effect s k.process t x

-- what an offer leads to that a process takes by itself: its statement, and then the process goes on
abbrev pub alone : ℕ → State → Pick → Bool → Option Offer → Result Done Fault
alone most s k t None = quiet s
alone most s k t (Some o) = taken most s k t o o.basic >>= λ d. Ok (record d { state = went d.state k.process o })

-- what the receiver of a message stores, by what it asks before the step
abbrev pub passed : Reading → Option Message → Option Basic → Result (List Goes) Fault
passed r (Some m) (Some (Plain (a.Receive q search how ws))) = asked_by ws r >>= λ ss. Ok (stores ss m.fields)
passed r m x = Ok []

-- it stores, and both go on; the receiver may hold
abbrev pub both_on : State → ℕ → ℕ → Offer → Offer → List Goes → Result Done Fault
both_on s p q o w gs = quiet (went (go_to (put_all s gs) p o.next) q w)

-- what a send and the receive that it meets lead to
abbrev pub paired : State → Pick → Pick → Bool → Option Offer → Option Offer → Result Done Fault
paired s k j t (Some o) (Some w) =
    passed (reads s j.process t) (message s.channels (reads s k.process t) o.basic) w.basic >>= both_on s k.process j.process o w
paired s k j t o w = quiet s

-- What a move leads to: a state and the bytes that are printed, or the first fault. A d_step has at most `most` statements.
abbrev pub after_move : ℕ → State → Move → Result Done Fault
after_move most s (Death p) = quiet (without_youngest s)
after_move most s (Alone k t) = alone most s k t (picked s k)
after_move most s (Pair k j t) = paired s k j t (picked s k) (picked s j)
