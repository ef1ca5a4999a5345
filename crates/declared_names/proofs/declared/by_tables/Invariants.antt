use Rattle.std.proofs.Common.{◌≡◌, take, flat_map}
use Rattle.check_names.specs.Entry.{found}
use Rattle.declared_names.specs.Firsts.{declared_by_mark}
use Rattle.declared_names.specs.Tables.{sites_of}
use Rattle.declared_names.proofs.declared.by_tables.Given as goal

abbrev pub invariant-loop-mark : goal.invariant-loop-mark
invariant-loop-mark l = l.out.items ≡ flat_map (declared_by_mark (found l.table) (sites_of l.sites) (sites_of l.labels)) (take l.mark-index l.marks)
