use Rattle.names_apart.proofs.Fresh.{new_name}
use Rattle.names_apart.proofs.laws.divided_names_are_new.Goals as goal

pub returns : goal.returns
returns c = new_name
