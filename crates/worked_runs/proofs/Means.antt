-- The means by which expressions are evaluated: those of the definitions are folds, and others, which are equal, compute.
use Rattle.std.proofs.Common.{◌≡◌, Result}
use Rattle.diagnostics.specs.declared.fault.Fault.{Fault}
use Rattle.pml_program.specs.declared.expr.Expr.{Expr}
use Rattle.pml_program.specs.declared.expr.Target.{Target}
use Rattle.pml_program.specs.declared.expr.Want.{Want}
use Rattle.promela_process.specs.declared.place.Place.{Place}
use Rattle.promela_process.specs.Expressions.{Reading, Valued, Wanted, Placed, Turned, value_step, want_step, target_step, turn_step, val, place, want}
use Rattle.worked_runs.proofs.Folds.{value_of, want_of, target_of, value-is, want-is, target-is}

pub record Means : Type 0 where
  pub val : Expr → Valued
  pub place : Target → Reading → Result Place Fault
  pub want : Want → Wanted

-- those of the definitions
abbrev pub stated : Means
stated = record { val = val; place = place; want = want }

-- ---- means that compute

abbrev pub computing : Means
computing = record {
  val = value_of Valued Wanted Placed Turned value_step want_step target_step turn_step;
  place = λ t. (target_of Valued Wanted Placed Turned value_step want_step target_step turn_step t).lies;
  want = want_of Valued Wanted Placed Turned value_step want_step target_step turn_step;
}

-- and they are the same
pub means-are : stated ≡ computing
means-are = λ i. record {
  val = value-is Valued Wanted Placed Turned value_step want_step target_step turn_step i;
  place = λ t. (target-is Valued Wanted Placed Turned value_step want_step target_step turn_step i t).lies;
  want = want-is Valued Wanted Placed Turned value_step want_step target_step turn_step i;
}
