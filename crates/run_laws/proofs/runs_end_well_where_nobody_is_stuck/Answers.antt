use Rattle.run_laws.proofs.Telling.{all_done, nobody}
use Rattle.run_laws.proofs.runs_end_well_where_nobody_is_stuck.Goals as goal

pub returns : goal.returns
returns c s = record {
  forth = λ h p. nobody s.program s.stands p h;
  back = λ h. all_done s.program s.stands h;
}
