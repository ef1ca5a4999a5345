use Rattle.meaning_laws.proofs.Tiling.{model-tiled}
use Rattle.meaning_laws.proofs.laws.cells_are_tiled.Goals as goal

pub returns : goal.returns
returns c = model-tiled
