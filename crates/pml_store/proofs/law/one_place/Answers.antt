use Rattle.pml_store.proofs.OnePlace.{number_at-with_number}
use Rattle.pml_store.proofs.law.one_place.Goals as goal

pub returns : goal.returns
returns c = number_at-with_number
