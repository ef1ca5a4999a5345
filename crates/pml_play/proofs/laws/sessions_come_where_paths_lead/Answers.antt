use Rattle.pml_play.proofs.Shown.{comes_along, leads_there}
use Rattle.pml_play.proofs.laws.sessions_come_where_paths_lead.Goals as goal

pub returns : goal.returns
returns c text lossy model is state = (comes_along text lossy model state is, leads_there text lossy model state)
