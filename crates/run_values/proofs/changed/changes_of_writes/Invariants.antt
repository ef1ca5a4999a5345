use Rattle.std.proofs.Common.{◌≡◌, ◌++◌}
use Rattle.run_values.specs.Written.{each_write}
use Rattle.run_values.specs.Placed.{changed_at}
use Rattle.run_values.proofs.changed.changes_of_writes.Given as goal

-- the changes so far, and those of the writes that are left
abbrev pub invariant-loop-at : goal.invariant-loop-at
invariant-loop-at l = l.changes.items ++ each_write (changed_at l.tables l.sorts) l.cells l.at-iterator ≡ each_write (changed_at l.tables l.sorts) l.cells l.writes.entries
