use Rattle.path_laws.proofs.Naming.{texts_name_places, listed_moves_have_origins}
use Rattle.path_laws.proofs.listed_moves_have_origins.Goals as goal

pub returns : goal.returns
returns c = record { names = texts_name_places; listed = listed_moves_have_origins }
