use Rattle.std.proofs.Common.{◌≡◌, drop}
use Rattle.check_names.specs.Entry.{found}
use Rattle.promela_model.specs.Conditions.{lacks}
use Rattle.check_conditions.proofs.unknown.lacks.Given as goal

abbrev pub invariant-loop-step : goal.invariant-loop-step
invariant-loop-step l = lacks (found l.table) l.here (drop l.step-index l.steps) ≡ lacks (found l.table) l.fn.form l.steps
