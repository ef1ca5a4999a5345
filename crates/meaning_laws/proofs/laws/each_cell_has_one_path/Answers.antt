use Rattle.meaning_laws.proofs.Leading.{model-paths}
use Rattle.meaning_laws.proofs.laws.each_cell_has_one_path.Goals as goal

pub returns : goal.returns
returns c = model-paths
