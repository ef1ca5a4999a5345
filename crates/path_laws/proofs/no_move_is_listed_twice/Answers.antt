use Rattle.path_laws.proofs.Listing.{moves_stand_once, models_list_once}
use Rattle.path_laws.proofs.no_move_is_listed_twice.Goals as goal

pub returns : goal.returns
returns c = record { states = λ s. moves_stand_once s; models = λ w. models_list_once w }
