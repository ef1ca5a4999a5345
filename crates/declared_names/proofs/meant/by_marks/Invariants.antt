use Rattle.std.proofs.Common.{◌≡◌, ◌≤◌, ◌++◌, length, take, drop}
use Rattle.check_names.specs.Env.{env}
use Rattle.check_names.specs.Totals.{IsTotalled}
use Rattle.declared_names.specs.Meant.{by_marks, meant}
use Rattle.declared_names.specs.Tables.{AreSites}
use Rattle.declared_names.proofs.meant.by_marks.Given as goal

abbrev pub invariant-loop-mark : goal.invariant-loop-mark
invariant-loop-mark l = record {
  table : l.names.table ≡ env (take l.mark-index l.marks);
  few : length l.names.table ≤ l.mark-index;
  totalled : IsTotalled l.names.table l.names.totals l.names.constants;
  sites : AreSites (take l.mark-index l.marks) l.sites;
  out : l.out.items ++ by_marks l.marks (take l.mark-index l.marks) (drop l.mark-index l.marks) ≡ meant l.marks;
}
