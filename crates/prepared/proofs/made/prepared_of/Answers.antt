use Rattle.std.proofs.lemmas.Result.{IfOk-weaker}
use Rattle.prepared.proofs.made.prepared_of.Goals as goal

pub returns : goal.returns
returns c = IfOk-weaker c.prepared_from.result _ _ (λ p m. record {
  text = c.in_ok-left.left.text.items;
  left = c.in_ok-left.ensures;
  made = m;
}) c.prepared_from.ensures
