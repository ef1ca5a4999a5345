use Rattle.path_laws.proofs.Numbering.{one_record, one_to_one}
use Rattle.path_laws.proofs.Running.{runs_and_records}
use Rattle.path_laws.proofs.a_path_has_one_record.Goals as goal

pub returns : goal.returns
returns g c = record { numbers = λ once. one_record _ once; paths = λ once. one_to_one _ once; runs = λ once. runs_and_records _ once }
