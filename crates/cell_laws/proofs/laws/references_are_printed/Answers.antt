use Rattle.cell_laws.proofs.Reading.{read-back}
use Rattle.cell_laws.proofs.laws.references_are_printed.Goals as goal

pub returns : goal.returns
returns c t p ss stands owner gs ls r x is now = read-back t p ss gs ls r x is now stands owner
