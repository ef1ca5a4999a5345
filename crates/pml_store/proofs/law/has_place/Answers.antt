use Rattle.pml_store.proofs.Back.{has_cell}
use Rattle.pml_store.proofs.law.has_place.Goals as goal

pub returns : goal.returns
returns c = has_cell
