-- What a session shows along a path, and which states it comes to.
use Rattle.std.specs.Prelude.{◌≡◌, ◌≤◌, ℕ, ◌+◌, Bool, false, List, [], ◌∷◌, ◌++◌, length}
use Rattle.std.specs.List.{flat_map}
use Rattle.promela_session.specs.declared.ends.Options.{Options}
use Rattle.promela_session.specs.declared.ends.End.{End}
use Rattle.promela_session.specs.Events.{Event, Put, Told, Recorded, Stepped, asks, Part, preceded, record_line, placed_line, prompt, list_from}
use Rattle.promela_machine.specs.Machine.{Rules, Outcome, Goes, Faults}
use Rattle.promela_session.specs.Session.{place_of_move, step_text}
use Rattle.promela_run.specs.declared.moves.Move.{Move}
use Rattle.promela_run.specs.World.{Running, rules as rules_of_models}
use Rattle.pml_play.specs.Plain.{SayTheSame}
use Rattle.pml_play.specs.Run.{Leg, IsPath, IsRun, last_state}
use Rattle.pml_play.specs.Transcript.{IsTranscript}

-- what a step prints
abbrev pub printed_by : {S : Type 0} → Outcome S → List ℕ
printed_by (Goes t printed) = printed
printed_by (Faults f) = []

-- what is done before a step: of several moves there are a list and a prompt, and the line of the next number is read and recorded
abbrev pub question_for : {S M : Type 0} → Rules S M → S → List M → List ℕ → List Event
question_for rules s [] numbers = []
question_for rules s (m ∷ []) numbers = []
question_for rules s (m ∷ k ∷ ms) [] = []
question_for rules s (m ∷ k ∷ ms) (n ∷ numbers) =
    Put Told (list_from (rules.text s) 1 (m ∷ k ∷ ms)) ∷ Put Told (prompt (length (m ∷ k ∷ ms)))
    ∷ (asks (record_line n) false ++ Recorded (record_line n) (placed_line n (place_of_move rules s (m ∷ k ∷ ms) n)) ∷ [])

-- the numbers that are left behind it
abbrev pub numbers_behind : {M : Type 0} → List M → List ℕ → List ℕ
numbers_behind [] numbers = numbers
numbers_behind (m ∷ []) numbers = numbers
numbers_behind (m ∷ k ∷ ms) [] = []
numbers_behind (m ∷ k ∷ ms) (n ∷ numbers) = numbers

-- what is done at a step: it is taken, and its text is written
abbrev pub step_done : {S M : Type 0} → Rules S M → Options → S → ℕ → Leg S M → List Event
step_done rules options s steps leg =
    Stepped ∷ Put Told (step_text rules options s leg.move (steps + 1) leg.next (printed_by (rules.step s leg.move))) ∷ []

-- What is done along a path with these numbers, behind so many steps: question and step, one behind another, and then what is done later.
abbrev pub along : {S M : Type 0} → Rules S M → Options → S → ℕ → List (Leg S M) → List ℕ → Part End → Part End
along rules options s steps [] numbers later = later
along rules options s steps (leg ∷ legs) numbers later =
    preceded (question_for rules s (rules.moves s) numbers)
    (preceded (step_done rules options s steps leg) (along rules options leg.next (steps + 1) legs (numbers_behind (rules.moves s) numbers) later))

-- On the numbers of each path that is no longer than the limit, with whatever behind them, the session does what is done along the path, and then more.
abbrev pub ShowsEachPath : {S M : Type 0} → Rules S M → Options → S → (List ℕ → Part End) → Type 0
ShowsEachPath {S} {M} rules options s session = (path : List (Leg S M)) (numbers more : List ℕ) → IsPath rules s path numbers → length path ≤ options.limit
    → (later : Part End) × (session (flat_map record_line numbers ++ more) ≡ along rules options s 0 path numbers later)

-- a path leads from one state to another
abbrev pub PathLeads : {S M : Type 0} → Rules S M → S → S → Type 0
PathLeads {S} {M} rules s t = (path : List (Leg S M)) × (numbers : List ℕ) × IsPath rules s path numbers × (last_state s path ≡ t)

-- a session over the text, by some options and on some choices, runs through a path to this state, and ends there
pub record ComesTo (text : List ℕ) (lossy : Bool) (model state : Running) : Type 0 where
  pub options : Options
  pub loses : options.lossy ≡ lossy
  pub session : List ℕ → Part End
  pub is_transcript : IsTranscript text options session
  pub choices : List ℕ
  pub path : List (Leg Running Move)
  pub run : IsRun rules_of_models options.limit model path (session choices)
  pub last : last_state model path ≡ state

-- sessions over the text come to a state exactly where a path leads there
abbrev pub ComeWherePathsLead : List ℕ → Bool → Running → Type 0
ComeWherePathsLead text lossy model = (state : Running) → SayTheSame (PathLeads rules_of_models model state) (ComesTo text lossy model state)
