use Rattle.run_search.proofs.EachMove.{the_holder_goes_on}
use Rattle.run_search.proofs.laws.the_holder_goes_on.Goals as goal

pub returns : goal.returns
returns c = the_holder_goes_on
