use Rattle.pml_value.proofs.InOrder.{in_order}
use Rattle.pml_value.proofs.laws.messages_come_in_order.Goals as goal

pub returns : goal.returns
returns c = in_order
