use Rattle.std.proofs.Common.{◌≡◌, ◌++◌, drop}
use Rattle.std.specs.Io.{StartsWith}
use Rattle.promela_run.specs.Lines.{owners, each_change}
use Rattle.run_values.specs.Written.{line_at}
use Rattle.run_values.proofs.change.lines_of_cells.Given as goal

-- the text so far, and the lines of the cells that are left
abbrev pub invariant-loop-at : goal.invariant-loop-at
invariant-loop-at l = record {
  same : l.text.items ++ each_change (line_at l.tables (owners l.tables l.wanted.globals l.wanted.locals l.sorts)) l.at (drop l.at l.before) (drop l.at l.after) ≡ l.initial.text.items ++ each_change (line_at l.tables (owners l.tables l.wanted.globals l.wanted.locals l.sorts)) 0 l.before l.after;
  kept : StartsWith l.text.items l.initial.text.items;
}
