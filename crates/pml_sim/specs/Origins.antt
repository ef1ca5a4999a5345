-- That the text of a move names where the move comes from.
use Rattle.std.specs.Prelude.{◌≡◌, ◌≢◌, ℕ, List, [], ◌++◌, Option, Some, None, IsSome, codes}
use Rattle.std.specs.Fmt.{decimal}
use Rattle.promela_process.specs.Offers.{Offer}
use Rattle.promela_run.specs.declared.moves.Move.{Move}
use Rattle.promela_run.specs.declared.moves.Move.TheVariants.{Death, Alone, Pair}
use Rattle.promela_run.specs.State.{State, picked}
use Rattle.promela_run.specs.World.{sort_of_process, origin_of, move_text}

-- `proc P (NAME) line L`, and more
pub record Names (place : ℕ × ℕ) (text : List ℕ) : Type 0 where
  pub name : List ℕ
  pub more : List ℕ
  pub is : text ≡ codes "proc " ++ (decimal place.0 ++ (codes " (" ++ (name ++ (codes ") " ++ (codes "line " ++ (decimal place.1 ++ more))))))

-- an offer of a statement that is there
abbrev pub IsOffered : Option Offer → Type 0
IsOffered None = ⊥
IsOffered (Some o) = o.text ≢ []

-- a move of a statement that is there, of two processes that of the sender; of a death the proctype is
abbrev pub IsThere : State → Move → Type 0
IsThere s (Death p) = IsSome (sort_of_process s p)
IsThere s (Alone k t) = IsOffered (picked s k)
IsThere s (Pair k j t) = IsOffered (picked s k)

abbrev pub TextsNameOrigins : Type 0
TextsNameOrigins = (s : State) (m : Move) → IsThere s m → Names (origin_of s m) (move_text s m)
