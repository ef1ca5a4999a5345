use Rattle.std.proofs.Common.{◌≡◌, ◌+◌, [], drop}
use Rattle.check_names.specs.Totals.{IsTotalled}
use Rattle.check_resolve.specs.Model.{made, no_program, with_units}
use Rattle.check_resolve.proofs.model.number.Given as goal

abbrev pub invariant-loop-i : goal.invariant-loop-i
invariant-loop-i l = record {
  made : with_units l.all (l.i + 1) (drop l.i l.one-items) (made l.program l.names.table) ≡ with_units l.all 1 l.one-items (made no_program []);
  totalled : IsTotalled l.names.table l.names.totals l.names.constants;
}
