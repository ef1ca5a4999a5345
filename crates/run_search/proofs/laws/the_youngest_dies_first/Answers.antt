use Rattle.run_search.proofs.EachMove.{the_youngest_dies_first}
use Rattle.run_search.proofs.laws.the_youngest_dies_first.Goals as goal

pub returns : goal.returns
returns c = the_youngest_dies_first
