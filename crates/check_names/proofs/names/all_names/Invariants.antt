use Rattle.std.proofs.Common.{◌≡◌, ◌≤◌, length, take}
use Rattle.check_names.specs.Env.{env}
use Rattle.check_names.specs.Totals.{IsTotalled}
use Rattle.check_names.proofs.names.all_names.Given as goal

abbrev pub invariant-loop-mark : goal.invariant-loop-mark
invariant-loop-mark l = record {
  table : l.names.table ≡ env (take l.mark-index l.marks);
  few : length l.names.table ≤ l.mark-index;
  totalled : IsTotalled l.names.table l.names.totals l.names.constants;
}
