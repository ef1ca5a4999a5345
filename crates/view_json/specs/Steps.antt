-- The tokens of the lines of the first state and of steps.
use Rattle.std.specs.Prelude.{◌≡◌, ℕ, Bool, true, false, if◌then◌else◌, List, [], ◌∷◌, ◌++◌, length, map, Option, Some, None, codes}
use Rattle.std.specs.List.{flat_map}
use Rattle.json.specs.Token.{Token, end_object, string, boolean}
use Rattle.json.specs.Print.{print}
use Rattle.pml_program.specs.declared.program.Proctype.{Proctype}
use Rattle.pml_program.specs.declared.program.Program.{Program}
use Rattle.promela_run.specs.Lines.{proctype_name}
use Rattle.run_values.specs.declared.changed.Change.{Change}
use Rattle.promela_run.specs.declared.moves.Move.{Move}
use Rattle.promela_run.specs.State.{State}
use Rattle.view_text.specs.Written.{Written, Adds}
use Rattle.view_json.specs.Objects.{count, text, member, object, array, cells}
use Rattle.view_json.specs.Lines.{begun, line, ReadsBack}
use Rattle.view_json.specs.declared.steps.Note.{Note}
use Rattle.view_json.specs.Shown.{Shown, Told, AreTold, channels_from, processes_from, new_ones, changed_ones, has_changes, changed_cells, listed}

-- a name or none is told for each channel, and texts for all that each process waits for
abbrev pub IsTold : State → Told → Type 0
IsTold s t = (length t.names ≡ length s.channels) × (length t.words ≡ length s.stands) × AreTold s 0 t.words

-- What is shown once a state is.
abbrev pub shown_of : State → List Move → Told → Shown
shown_of s ms t = record { processes = map print (processes_from s ms 0 t.words); channels = map print (channels_from s 1 t.names) }

-- the channels and the processes that are not as they were shown
abbrev pub told : Bool → State → List Move → ℕ → List Change → Shown → Told → List Token
told always s ms older cs before t =
    listed always (codes "channels") (new_ones before.channels 0 (channels_from s 1 t.names))
    ++ listed always (codes "processes") (changed_ones s before.processes older cs 0 (processes_from s ms 0 t.words))

abbrev pub printed : List ℕ → List Token
printed [] = []
printed (b ∷ bs) = member (codes "printed") (text (b ∷ bs))

-- the globals that a step changed, if any
abbrev pub globals : State → List Change → List Token
globals s cs = if has_changes 0 cs then member (codes "globals") (changed_cells s 0 cs) else []

-- what a step printed, if anything, and the globals that it changed
abbrev pub changed : State → List ℕ → List Change → List Token
changed s bytes cs = printed bytes ++ globals s cs

-- behind how many steps a state stood first, where it stood before
abbrev pub same : Option ℕ → List Token
same None = []
same (Some k) = member (codes "same_as") (count k)

-- to which line a claim moves, if it moves
abbrev pub claim : Option ℕ → List Token
claim None = []
claim (Some n) = member (codes "claim") (count n)

-- that a cycle begins, if one does
abbrev pub cycle : Bool → List Token
cycle begins = if begins then member (codes "cycle") (boolean true ∷ []) else []

-- what a trail says beside a step
abbrev pub noted : Note → List Token
noted n = claim n.claim ++ cycle n.begins_cycle

-- how many processes and channels there are, where the state stood before, and what a trail says beside the step
abbrev pub counts : State → Option ℕ → Note → List Token
counts s k n =
    member (codes "alive") (count (length s.stands)) ++ (member (codes "open") (count (length s.channels)) ++ (same k ++ noted n))

-- What a step did: what it printed, how many processes there were before it, what it changed, where the state that it led to stood before, the choices
-- that it was one of, as objects, and what a trail says beside it.
pub record Deed : Type 0 where
  pub printed : List ℕ
  pub older : ℕ
  pub changes : List Change
  pub same_as : Option ℕ
  pub choices : List Token
  pub note : Note

-- what stands behind the objects of a step
abbrev pub rest : State → Option ℕ → Note → List Token → List Token
rest s k n choices = counts s k n ++ (listed false (codes "choices") choices ++ end_object ∷ [])

-- The line of a step: what is told of it before it is taken, and what differs behind it from what was shown.
abbrev pub step_tokens : State → List Move → List Token → Deed → Shown → Told → List Token
step_tokens s ms front d before t =
    (front ++ changed s d.printed d.changes) ++ (told false s ms d.older d.changes before t ++ rest s d.same_as d.note d.choices)

-- ---- the first state

-- the name of a proctype
abbrev pub named : Proctype → List Token
named q = member (codes "name") (text (proctype_name q.name))

-- a proctype: its name, and the line of its closing brace
abbrev pub proctype : Proctype → List Token
proctype q = object (named q ++ member (codes "end") (count q.end.line))

abbrev pub proctypes : Program → List Token
proctypes pr = member (codes "proctypes") (array (flat_map proctype pr.proctypes))

-- the format, the model, its proctypes, and its globals
abbrev pub heading : State → List ℕ → Bool → List Token
heading s model lossy =
    member (codes "format") (count 1)
    ++ (member (codes "model") (string model ∷ [])
    ++ (member (codes "lossy") (boolean lossy ∷ []) ++ (proctypes s.program ++ member (codes "globals") (cells s 0))))

-- what stands before the channels
abbrev pub start : State → List ℕ → Bool → List Token
start s model lossy = begun (codes "start") ++ heading s model lossy

-- The line of the first state, whose processes are all new.
abbrev pub start_tokens : State → List Move → List ℕ → Bool → Shown → Told → List Token
start_tokens s ms model lossy before t = start s model lossy ++ (told true s ms 0 [] before t ++ end_object ∷ [])

-- ---- a line behind another

-- What is written, and what was shown last.
pub record Telling : Type 0 where
  pub text : Written
  pub shown : Shown

-- the line of a step is written, told against what was shown; what it leads to is shown then
pub record TellsStep (old new : Telling) (s : State) (ms : List Move) (front : List Token) (d : Deed) (t : Told) : Type 0 where
  pub whole : IsTold s t
  pub shows : new.shown ≡ shown_of s ms t
  pub line : Adds old.text new.text (line (step_tokens s ms front d old.shown t))
  pub reads_back : new.text.refused ≡ false → ReadsBack (step_tokens s ms front d old.shown t)

-- so is the line of the first state
pub record TellsStart (old new : Telling) (s : State) (ms : List Move) (model : List ℕ) (lossy : Bool) (t : Told) : Type 0 where
  pub whole : IsTold s t
  pub shows : new.shown ≡ shown_of s ms t
  pub line : Adds old.text new.text (line (start_tokens s ms model lossy old.shown t))
  pub reads_back : new.text.refused ≡ false → ReadsBack (start_tokens s ms model lossy old.shown t)
