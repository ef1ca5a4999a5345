use Rattle.run_step.proofs.Keeping.{atomic_keeps_control, receivers_keep_control}
use Rattle.run_step.proofs.laws.atomic_keeps_control.Goals as goal

pub returns : goal.returns
returns c = record { alone = atomic_keeps_control; receivers = receivers_keep_control }
