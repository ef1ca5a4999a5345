use Rattle.std.proofs.Common.{◌≡◌, drop}
use Rattle.check_names.specs.Entry.{found}
use Rattle.promela_model.specs.Conditions.{misfits}
use Rattle.check_conditions.proofs.wrong.misfits.Given as goal

abbrev pub invariant-loop-step : goal.invariant-loop-step
invariant-loop-step l = misfits (found l.table) l.used l.here (drop l.step-index l.steps) ≡ misfits (found l.table) l.used l.fn.form l.steps
