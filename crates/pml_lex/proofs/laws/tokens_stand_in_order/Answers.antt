use Rattle.pml_lex.proofs.Order.{in_order}
use Rattle.pml_lex.proofs.laws.tokens_stand_in_order.Goals as goal

pub returns : goal.returns
returns c = in_order
