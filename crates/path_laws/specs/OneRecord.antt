-- Lists in which nothing stands twice, and the numbers of a path.
use Rattle.std.specs.Prelude.{◌≡◌, ℕ, List, Some, length, slice_get}
use Rattle.promela_machine.specs.Machine.{Rules}
use Rattle.pml_play.specs.Plain.{SayTheSame}
use Rattle.pml_play.specs.Run.{Leg, IsPath}

-- nothing stands at two places
abbrev pub StandOnce : {X : Type 0} → List X → Type 0
StandOnce {X} xs = (i j : ℕ) (x : X) → slice_get xs i ≡ Some x → slice_get xs j ≡ Some x → i ≡ j

-- each state's list has each move once
abbrev pub ListsOnce : {S M : Type 0} → Rules S M → Type 0
ListsOnce {S} rules = (s : S) → StandOnce (rules.moves s)

-- a path is chosen by one list of numbers
abbrev pub PathsHaveOneRecord : {S M : Type 0} → Rules S M → Type 0
PathsHaveOneRecord {S} {M} rules = (s : S) (path : List (Leg S M)) (numbers others : List ℕ) → IsPath rules s path numbers
    → IsPath rules s path others → numbers ≡ others

-- paths from one state with as many steps are the same exactly where their numbers are
abbrev pub PathsAndRecordsAreOneToOne : {S M : Type 0} → Rules S M → Type 0
PathsAndRecordsAreOneToOne {S} {M} rules = (s : S) (path again : List (Leg S M)) (numbers others : List ℕ) → IsPath rules s path numbers
    → IsPath rules s again others → length path ≡ length again → SayTheSame (path ≡ again) (numbers ≡ others)
