use Rattle.pml_sim.proofs.Naming as naming
use Rattle.pml_sim.proofs.laws.texts_name_origins.Goals as goal

pub returns : goal.returns
returns c s m there = naming.texts_name_origins s m there
