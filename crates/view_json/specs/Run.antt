-- The lines of a run.
use Rattle.std.specs.Prelude.{◌≡◌, ℕ, Bool, true, List, [], ◌∷◌, ◌++◌}
use Rattle.json.specs.Token.{Token}
use Rattle.json.specs.Print.{ends_value}
use Rattle.promela_run.specs.declared.moves.Move.{Move}
use Rattle.promela_run.specs.State.{State}
use Rattle.view_text.specs.Written.{Adds}
use Rattle.view_json.specs.declared.lines.Ahead.{Ahead}
use Rattle.view_json.specs.Lines.{front, line}
use Rattle.view_json.specs.Shown.{Shown, Told}
use Rattle.view_json.specs.Steps.{Deed, Telling, TellsStart, TellsStep, shown_of, step_tokens, start_tokens}

-- A step of a run: what is told of it before it is taken, the state that it leads to with its moves, what it did, and what else is told of that state.
pub record Stage : Type 0 where
  pub front : List Token
  pub state : State
  pub moves : List Move
  pub deed : Deed
  pub told : Told

-- the line of a step, behind what was shown
abbrev pub step_line : Shown → Stage → List ℕ
step_line before x = line (step_tokens x.state x.moves x.front x.deed before x.told)

-- what is shown behind it
abbrev pub shown_behind : Stage → Shown
shown_behind x = shown_of x.state x.moves x.told

-- The lines of steps: each tells how its state differs from that of the one before it.
abbrev pub step_lines : Shown → List Stage → List ℕ
step_lines before [] = []
step_lines before (x ∷ xs) = step_line before x ++ step_lines (shown_behind x) xs

-- steps are told one behind another
abbrev pub TellsAll : Telling → List Stage → Telling → Type 0
TellsAll a [] c = a ≡ c
TellsAll a (x ∷ xs) c = (b : Telling) × TellsStep a b x.state x.moves x.front x.deed x.told × TellsAll b xs c

-- The lines of a run are that of its first state, one a step, and the last: each step is told against the state before it.
abbrev pub LinesAreTheRun : Type 0
LinesAreTheRun =
    (a b c d : Telling) (s : State) (ms : List Move) (model : List ℕ) (lossy : Bool) (t : Told) (xs : List Stage) (last : List ℕ)
    → TellsStart a b s ms model lossy t → TellsAll b xs c → Adds c.text d.text last
    → Adds a.text d.text (line (start_tokens s ms model lossy a.shown t) ++ (step_lines (shown_of s ms t) xs ++ last))

-- the line of the first state, and those of steps
abbrev pub lines_to : State → List Move → List ℕ → Bool → Shown → Told → List Stage → List ℕ
lines_to s ms model lossy before t xs = line (start_tokens s ms model lossy before t) ++ step_lines (shown_of s ms t) xs

-- The lines of a longer walk begin with those of a shorter one that it goes on from, but for the last of that.
abbrev pub LongerWalksBeginSo : Type 0
LongerWalksBeginSo =
    (a b c d e f : Telling) (s : State) (ms : List Move) (model : List ℕ) (lossy : Bool) (t : Told) (xs ys : List Stage) (last later : List ℕ)
    → TellsStart a b s ms model lossy t → TellsAll b xs c → Adds c.text d.text last → TellsAll c ys e → Adds e.text f.text later
    → Adds a.text d.text (lines_to s ms model lossy a.shown t xs ++ last)
    × ((more : List ℕ) × Adds a.text f.text (lines_to s ms model lossy a.shown t xs ++ (more ++ later)))

-- Lines that begin with the state behind a step, told as the step told it, go on as those of the whole run do behind that step.
abbrev pub LinesBehindAStep : Type 0
LinesBehindAStep =
    (a b c d : Telling) (x : Stage) (model : List ℕ) (lossy : Bool) (ys : List Stage) (last : List ℕ)
    → TellsStart a b x.state x.moves model lossy x.told → TellsAll b ys c → Adds c.text d.text last
    → (later : List ℕ) × Adds a.text d.text (line (start_tokens x.state x.moves model lossy a.shown x.told) ++ (later ++ last))
    × ((before : Shown) (xs : List Stage) → (sooner : List ℕ) × (step_lines before (xs ++ x ∷ ys) ≡ sooner ++ later))

-- What is told of a step before it is taken ends a value.
abbrev pub FrontsEnd : Type 0
FrontsEnd = (s : State) (event : List ℕ) (a : Ahead) (m : Move) → ends_value (front s event a m) ≡ true
