use Rattle.std.proofs.Common.{◌≡◌, ◌++◌, drop, reverse}
use Rattle.check_names.specs.Env.{env_from}
use Rattle.check_names.specs.Totals.{IsTotalled}
use Rattle.check_uses.specs.Parts.{of_constants}
use Rattle.check_resolve.proofs.model.constants.Given as goal

abbrev pub invariant-loop-i : goal.invariant-loop-i
invariant-loop-i l = record {
  tokens : l.tokens ≡ l.initial.tokens ++ reverse (drop l.i l.list);
  names : l.names.table ≡ env_from l.initial.names.table (of_constants (drop l.i l.list));
  totalled : IsTotalled l.names.table l.names.totals l.names.constants;
}
