use Rattle.walk_laws.proofs.Alike.{alike}
use Rattle.walk_laws.proofs.the_same_choices_show_the_same.Goals as goal

pub returns : goal.returns
returns c v w hv hw a = alike v w hv hw a
