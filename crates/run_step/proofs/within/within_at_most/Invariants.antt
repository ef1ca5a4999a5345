use Rattle.std.proofs.Common.{◌≡◌, Some, slice_get}
use Rattle.std.specs.Io.{StartsWith}
use Rattle.pml_program.specs.declared.program.Seq.{Seq}
use Rattle.pml_flow.specs.Points.{point_at}
use Rattle.run_state.specs.Live.{Joins, PastGrows}
use Rattle.promela_run.specs.Steps.{body_by}
use Rattle.run_step.proofs.Inward.{Follows}
use Rattle.run_step.proofs.within.within_at_most.Given as goal

-- what is left from here, behind what was printed so far, is the whole
abbrev pub invariant-loop-taken : goal.invariant-loop-taken
invariant-loop-taken l = record {
  joins : Joins l.initial.live.state l.live.state;
  past : PastGrows l.initial.live l.live;
  kept : StartsWith l.text.items l.initial.text.items;
  follows : (b : Seq) → body_by l.initial.live.state (slice_get l.initial.live.state.stands l.process) ≡ Some b
      → Follows b l.most l._taken l.initial.live.state l.live.state l.process l.timeout l.timeout_here (point_at b l.entry) (point_at b l.node) l.initial.text.items l.text.items;
}
