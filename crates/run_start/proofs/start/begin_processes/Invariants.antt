use Rattle.std.proofs.Common.{◌≡◌, ◌-◌}
use Rattle.run_start.specs.Shown.{begun}
use Rattle.run_start.specs.Bound.{most_cells}
use Rattle.promela_run.specs.State.{sort_begun}
use Rattle.run_start.specs.Starting.{IsDeclared}
use Rattle.run_start.proofs.start.begin_processes.Given as goal

-- the processes that are begun by now, and then the others, are all
abbrev pub invariant-loop-start : goal.invariant-loop-start
invariant-loop-start l = record {
  same : sort_begun l.program l.sort (l.starts - l._start) (begun l.program l.started) ≡ sort_begun l.program l.sort l.starts (begun l.program l.initial.started);
  declared : IsDeclared l.program l.started.store.frames l.started.sorts.items;
  most : l.started.store.most ≡ most_cells l.program;
}
