use Rattle.pml_check.proofs.Deciding.{judge}
use Rattle.pml_check.proofs.laws.each_tree_is_judged.Goals as goal

pub returns : goal.returns
returns c = judge
