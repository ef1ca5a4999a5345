use Rattle.std.proofs.Common.{take}
use Rattle.declared_names.specs.Tables.{AreSites}
use Rattle.declared_names.proofs.sites.all_sites.Given as goal

abbrev pub invariant-loop-mark : goal.invariant-loop-mark
invariant-loop-mark l = AreSites (take l.mark-index l.marks) l.sites
