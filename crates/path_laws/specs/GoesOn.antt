-- How paths go on.
use Rattle.std.specs.Prelude.{◌≡◌, ℕ, List, [], ◌∷◌, ◌++◌}
use Rattle.std.specs.List.{Contains}
use Rattle.promela_machine.specs.Machine.{Rules, Goes}
use Rattle.pml_play.specs.Plain.{SayTheSame}
use Rattle.pml_play.specs.Run.{Leg, IsPath, last_state}

-- a path, and one step more
abbrev pub path_and : {S M : Type 0} → List (Leg S M) → M → S → List (Leg S M)
path_and {S} {M} path m t = path ++ record { move = m; next = t } ∷ []

-- A move that leads on from the state where a path ends is listed there exactly where the path goes on by it, with some numbers more.
abbrev pub PathsGoOnByMoves : {S M : Type 0} → Rules S M → Type 0
PathsGoOnByMoves {S} {M} rules = (s t : S) (path : List (Leg S M)) (numbers printed : List ℕ) (m : M) → IsPath rules s path numbers
    → rules.step (last_state s path) m ≡ Goes t printed
    → SayTheSame (Contains (rules.moves (last_state s path)) m) ((more : List ℕ) × IsPath rules s (path_and path m t) (numbers ++ more))
