use Rattle.std.proofs.Common.{◌≡◌, drop}
use Rattle.run_start.specs.Shown.{begun}
use Rattle.run_start.specs.Bound.{most_cells}
use Rattle.promela_run.specs.State.{first_state, sorts_begun}
use Rattle.run_start.specs.Starting.{IsDeclared}
use Rattle.run_start.proofs.start.start_by.Given as goal

-- what is begun by now, and then the processes of the other proctypes, is the first state
abbrev pub invariant-loop-sort : goal.invariant-loop-sort
invariant-loop-sort l = record {
  same : sorts_begun l.program l.sort (drop l.sort l.program.proctypes) (begun l.program l.started) ≡ first_state l.program;
  declared : IsDeclared l.program l.started.store.frames l.started.sorts.items;
  most : l.started.store.most ≡ most_cells l.program;
}
