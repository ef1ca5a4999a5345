use Rattle.std.proofs.Common.{rules}
use Rattle.flat_code.proofs.Starting.{no_cells}
use Rattle.flat_code.proofs.owner.size_at.Goals as goal

pub returns-in-None : goal.returns-in-None
returns-in-None c = no_cells c.args.slots.now c.args.variable (search rules)
