-- What is shown on a walk.
use Rattle.std.specs.Prelude.{◌≡◌, ℕ, false, take}
use Rattle.view_walk.specs.Walks.{Walked, SameModel, legs_behind}

-- Two walks through one model, neither lost, on which the same choices stand.
pub record AreAlike (v w : Walked) : Type 0 where
  pub model : SameModel v w
  pub choices : take w.at w.legs ≡ take v.at v.legs
  pub found : v.is_lost ≡ false
  pub other_found : w.is_lost ≡ false

-- The second walk is the first behind the choice with this number and a step back.
pub record IsBack (v : Walked) (k : ℕ) (w : Walked) : Type 0 where
  pub model : SameModel v w
  pub legs : w.legs ≡ legs_behind v k
  pub at : w.at ≡ v.at
  pub found : v.is_lost ≡ false
  pub other_found : w.is_lost ≡ false

-- No choice stands.
pub record IsAtFirst (w : Walked) : Type 0 where
  pub at : w.at ≡ 0
  pub found : w.is_lost ≡ false

-- the machine is in one state on both, so whatever is shown of it is the same
abbrev pub ShowTheSame : Walked → Walked → Type 0
ShowTheSame v w = w.state ≡ v.state
