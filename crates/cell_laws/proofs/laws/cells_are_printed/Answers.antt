use Rattle.cell_laws.proofs.Reading.{printed-cells}
use Rattle.cell_laws.proofs.laws.cells_are_printed.Goals as goal

pub returns : goal.returns
returns c t p ss stands owner k cell s = printed-cells t p ss k cell s stands owner
