-- What finding the conditions that a model breaks answers.
use Rattle.std.specs.Prelude.{Bool, true, false, List}
use Rattle.promela_model.specs.declared.mark.Mark.{Mark}
use Rattle.check_conditions.specs.declared.find.Found.{Found}
use Rattle.promela_model.specs.declared.condition.Condition.{Condition}
use Rattle.promela_model.specs.declared.condition.Condition.TheVariants as condition
use Rattle.promela_model.specs.Decided.{Somewhere, broken, AppliesToMarks}
use Rattle.check_conditions.specs.Fitted.{Nowhere, FitsMarks}

abbrev pub Decides : Bool → Condition → List Mark → Type 0
Decides true r ms = AppliesToMarks r ms
Decides false r ms = FitsMarks r ms

-- the same of a test that is asked of each mark
abbrev pub Finds : Bool → (List Mark → Mark → Bool) → List Mark → Type 0
Finds true p ms = Somewhere p ms
Finds false p ms = Nowhere p ms

-- what is found of a text
pub record AreFound (ms : List Mark) (found : Found) : Type 0 where
  pub twice : Finds found.twice (broken condition.Twice ms) ms
  pub unknown : Finds found.unknown (broken condition.Unknown ms) ms
  pub wrong : Finds found.wrong (broken condition.Wrong ms) ms
  pub arguments : Finds found.arguments (broken condition.Arguments ms) ms
  pub label : Finds found.label (broken condition.Label ms) ms
  pub range : Finds found.range (broken condition.Range ms) ms
  pub cells : Finds found.cells (broken condition.Cells ms) ms
