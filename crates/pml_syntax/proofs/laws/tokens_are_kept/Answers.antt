use Rattle.pml_syntax.proofs.Kept.{tokens_kept}
use Rattle.pml_syntax.proofs.laws.tokens_are_kept.Goals as goal

pub returns : goal.returns
returns c closed x from to h = tokens_kept h
