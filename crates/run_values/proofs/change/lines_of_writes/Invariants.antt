use Rattle.std.proofs.Common.{◌≡◌, ◌++◌}
use Rattle.std.specs.Io.{StartsWith}
use Rattle.promela_run.specs.Lines.{owners}
use Rattle.run_values.specs.Written.{line_at, each_write}
use Rattle.run_values.proofs.change.lines_of_writes.Given as goal

-- the text so far, and the lines of the writes that are left
abbrev pub invariant-loop-at : goal.invariant-loop-at
invariant-loop-at l = record {
  same : l.text.items ++ each_write (line_at l.tables (owners l.tables l.wanted.globals l.wanted.locals l.sorts)) l.cells l.at-iterator ≡ l.initial.text.items ++ each_write (line_at l.tables (owners l.tables l.wanted.globals l.wanted.locals l.sorts)) l.cells l.writes.entries;
  kept : StartsWith l.text.items l.initial.text.items;
}
