-- Moves as objects.
use Rattle.std.specs.Prelude.{◌≡◌, ℕ, Bool, ltb, if◌then◌else◌, List, [], ◌∷◌, ◌++◌, length, Option, Some, None, codes}
use Rattle.json.specs.Token.{Token}
use Rattle.promela_process.specs.Offers.{Offer}
use Rattle.promela_process.specs.Control.{Control}
use Rattle.promela_run.specs.State.{picked as offer_of, State}
use Rattle.promela_run.specs.World.{sort_of_process}
use Rattle.promela_run.specs.declared.moves.Pick.{Pick}
use Rattle.promela_run.specs.declared.moves.Move.{Move}
use Rattle.promela_run.specs.declared.moves.Move.TheVariants.{Death, Alone, Pair}
use Rattle.view_cells.specs.Processes.{line_in}
use Rattle.view_tokens.specs.Printed.{Printed, Writes}
use Rattle.view_json.specs.Objects.{count, member, detail, object, array}
use Rattle.view_json.specs.Lines.{mover, picked, Dealing, dealing}
use Rattle.view_json.specs.declared.list.Listing.{Listing}
use Rattle.view_json.specs.Shown.{Lists}

-- where a process stands behind an offer: at a line of its proctype, or of the closing brace
abbrev pub line_behind : State → ℕ → Option Offer → ℕ
line_behind s p None = 0
line_behind s p (Some o) = line_in (sort_of_process s p) o.next

-- the line at which the process of a pick stands behind it
abbrev pub next_line : State → Pick → ℕ
next_line s k = line_behind s k.process (offer_of s k)

-- a process, its offer, and where it stands behind it
abbrev pub actor : State → Pick → List Token
actor s k = picked s k ++ member (codes "next") (count (next_line s k))

-- whose move it is: of a rendezvous the sender's
abbrev pub first_actor : State → Move → List Token
first_actor s (Death p) = mover s (Death p)
first_actor s (Alone k t) = actor s k
first_actor s (Pair k j t) = actor s k

-- the receiver of a rendezvous
abbrev pub partner : State → Move → List Token
partner s (Pair k j t) = member (codes "to") (object (actor s j))
partner s m = []

-- What is told of a move beside its processes: what it does with a message, and words for that.
pub record Effect : Type 0 where
  pub deals : Dealing
  pub words : List ℕ

-- A move: whose it is, what it does, with whom, and words for that, if it does anything with a message.
abbrev pub choice : State → Move → Effect → List Token
choice s m x = object (first_actor s m ++ (dealing s x.deals ++ (partner s m ++ detail (codes "effect") x.words)))

-- Moves, one behind another, each with its effect.
abbrev pub choices : State → List Move → List Effect → List Token
choices s [] xs = []
choices s (m ∷ ms) [] = []
choices s (m ∷ ms) (x ∷ xs) = choice s m x ++ choices s ms xs

-- a move is written, with some effect
abbrev pub AddsChoice : State → Move → Printed → Printed → Type 0
AddsChoice s m old new = (x : Effect) × Writes old new (choice s m x)

-- so are moves, each once, in their order
abbrev pub AddsChoices : State → List Move → Printed → Printed → Type 0
AddsChoices s ms old new = (xs : List Effect) × (length xs ≡ length ms) × Writes old new (choices s ms xs)

-- moves as a member, if it is told
abbrev pub told_choices : Bool → State → List Move → List Effect → List Token
told_choices is s ms xs = if is then member (codes "choices") (array (choices s ms xs)) else []

-- it is written, each move once, in their order
abbrev pub TellsChoices : Bool → State → List Move → Printed → Printed → Type 0
TellsChoices is s ms old new = (xs : List Effect) × (length xs ≡ length ms) × Writes old new (told_choices is s ms xs)

-- the moves, where there are several
abbrev pub several : State → List Move → List Effect → List Token
several s ms xs = if ltb 1 (length ms) then choices s ms xs else []

-- these are listed
abbrev pub ListsChoices : State → List Move → Listing → Type 0
ListsChoices s ms l = (xs : List Effect) × (length xs ≡ length ms) × Lists l (several s ms xs)
