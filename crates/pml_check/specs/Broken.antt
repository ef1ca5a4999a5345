-- Which conditions are broken on the marks of a tree.
use Rattle.std.specs.Prelude.{List}
use Rattle.promela_model.specs.declared.mark.Mark.{Mark}
use Rattle.promela_model.specs.declared.condition.Condition.TheVariants as condition
use Rattle.check_conditions.specs.Finds.{AreFound, Decides}
use Rattle.pml_check.specs.declared.broken.Broken.{Broken}

pub record AreBroken (ms : List Mark) (b : Broken) : Type 0 where
  pub found : AreFound ms b.found
  pub loose_break : Decides b.loose_break condition.Break ms
  pub crossed_step : Decides b.crossed_step condition.Step ms
  pub no_process : Decides b.no_process condition.NoProcess ms
  pub too_many_at_start : Decides b.too_many_at_start condition.Start ms
