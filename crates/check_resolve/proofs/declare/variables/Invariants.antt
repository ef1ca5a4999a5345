use Rattle.std.proofs.Common.{◌≡◌, drop}
use Rattle.check_names.specs.Totals.{IsTotalled}
use Rattle.check_resolve.specs.Declarations.{known, with_variables}
use Rattle.check_resolve.proofs.declare.variables.Given as goal

abbrev pub invariant-loop-v : goal.invariant-loop-v
invariant-loop-v l = record {
  known : with_variables l.all l.holder.role l.holder.number (drop l.v-index l.vs) (known l.names.table l.slots)
      ≡ with_variables l.all l.holder.role l.holder.number l.vs (known l.initial.names.table l.initial.slots);
  totalled : IsTotalled l.names.table l.names.totals l.names.constants;
}
