use Rattle.std.proofs.Common.{◌≡◌, ◌+◌, true, drop}
use Rattle.promela_run.specs.Lines.{process_owners}
use Rattle.run_values.specs.Placed.{place_at}
use Rattle.run_values.proofs.changed.process_place_at.Given as goal

-- the processes that are left, for the rest of the index
abbrev pub invariant-loop-i : goal.invariant-loop-i
invariant-loop-i l = place_at (l.i + 1) (process_owners l.tables true l.i (drop l.i l.sorts)) l.at ≡ place_at 1 (process_owners l.tables true 0 l.sorts) l.fn.at
