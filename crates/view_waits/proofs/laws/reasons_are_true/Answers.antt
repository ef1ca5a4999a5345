use Rattle.view_waits.proofs.Waiting.{reasons_are_true}
use Rattle.view_waits.proofs.laws.reasons_are_true.Goals as goal

pub returns : goal.returns
returns c = reasons_are_true
