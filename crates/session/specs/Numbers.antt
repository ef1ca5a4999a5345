-- Numbers of steps that differ in their last digit alone.
use Rattle.std.specs.Prelude.{◌≡◌, ℕ, ◌+◌, ◌-◌, ◌<◌, ◌≤◌, List, [], ◌∷◌, ◌++◌, take, drop, codes}
use Rattle.std.specs.Fmt.{decimal}

-- ten numbers, from the least, and the words of one of them
pub record Numbers : Type 0 where
  pub least : ℕ
  pub begin : ℕ
  pub words : List ℕ

-- `step N: ` of each of these numbers is what begins there, with its own last digit
pub record AreNumbers (least begin : ℕ) (words : List ℕ) : Type 0 where
  pub least_begin : 2 ≤ begin
  pub most_begin : begin < 32
  pub front : (d : ℕ) → d < 10 → drop begin (take 31 words) ++ (48 + d) ∷ [] ≡ codes "step " ++ decimal (least + d)
  pub back : take 2 (drop 32 words) ≡ codes ": "
