-- The first mark at which a condition is broken.
use Rattle.std.specs.Prelude.{◌≡◌, ℕ, ◌<◌, Bool, true, false, List, take, slice_get, Option, Some, None}
use Rattle.promela_model.specs.declared.mark.Mark.{Mark}
use Rattle.promela_model.specs.declared.condition.Condition.{Condition}
use Rattle.promela_model.specs.declared.condition.Condition.TheVariants as condition
use Rattle.check_conditions.specs.declared.find.Found.{Found}
use Rattle.promela_model.specs.Decided.{broken, crosses_step}
use Rattle.check_conditions.specs.Fitted.{Nowhere}
use Rattle.check_conditions.specs.Step.{breaks_loose}

-- whether a mark breaks a condition, among these marks and behind those that stand first; the conditions on the first state are broken at no mark
abbrev pub broken_at : Condition → List Mark → List Mark → Mark → Bool
broken_at condition.Break ms = breaks_loose
broken_at condition.Step ms = crosses_step ms
broken_at r ms = broken r ms

-- the mark behind k others breaks the condition, and none of these does
pub record IsFirstBroken (r : Condition) (ms : List Mark) (k : ℕ) : Type 0 where
  pub mark : Mark
  pub stands : slice_get ms k ≡ Some mark
  pub breaks : broken_at r ms (take k ms) mark ≡ true
  pub first : (j : ℕ) (m : Mark) → j < k → slice_get ms j ≡ Some m → broken_at r ms (take j ms) m ≡ false

-- the first mark at which the condition is broken, or none where it is broken at none
abbrev pub FindsFirst : Condition → List Mark → Option ℕ → Type 0
FindsFirst r ms None = Nowhere (broken_at r ms) ms
FindsFirst r ms (Some k) = IsFirstBroken r ms k

-- What was found of one condition. No clause of a public function cites it.
abbrev pub found_of : Condition → Found → Bool
found_of condition.Twice f = f.twice
found_of condition.Unknown f = f.unknown
found_of condition.Wrong f = f.wrong
found_of condition.Arguments f = f.arguments
found_of condition.Label f = f.label
found_of condition.Range f = f.range
found_of condition.Cells f = f.cells
found_of _ f = false
