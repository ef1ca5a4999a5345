use Rattle.promela_run.specs.World.{rules}
use Rattle.pml_play.proofs.Run.{text_runs, record_gives_run}
use Rattle.pml_play.proofs.laws.a_session_runs_through_a_path.Goals as goal

pub returns-clause-path : goal.returns-clause-path
returns-clause-path c text options model part is = text_runs is.0 is.1

pub returns-clause-one : goal.returns-clause-one
returns-clause-one c = record_gives_run rules
