use Rattle.promela_run.specs.World.{rules}
use Rattle.pml_play.proofs.Run.{text_runs}
use Rattle.path_laws.proofs.Listing.{models_list_once}
use Rattle.path_laws.proofs.Numbering.{one_to_one}
use Rattle.path_laws.proofs.Running.{has_one, runs_and_records}
use Rattle.path_laws.proofs.runs_and_records_are_one_to_one.Goals as goal

pub returns : goal.returns
returns c = record {
  paths = one_to_one rules models_list_once;
  one = λ text options model session is choices. has_one rules models_list_once options.limit model (session choices) (text_runs is.0 is.1 choices);
  same = λ text options others model session again is other choices more.
      runs_and_records rules models_list_once model options.limit others.limit (session choices) (again more) (text_runs is.0 is.1 choices) (text_runs other.0 other.1 more);
}
