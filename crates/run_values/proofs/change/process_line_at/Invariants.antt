use Rattle.std.proofs.Common.{◌≡◌, ℤ, true, drop}
use Rattle.promela_run.specs.Lines.{process_owners}
use Rattle.run_values.specs.Written.{line_at}
use Rattle.run_values.proofs.change.process_line_at.Given as goal

-- the processes that are left, for the rest of the index
abbrev pub invariant-loop-i : goal.invariant-loop-i
invariant-loop-i l = record {
  text : l.text.items ≡ l.initial.text.items;
  left : (v : ℤ) → line_at l.tables (process_owners l.tables true l.i (drop l.i l.sorts)) l.at v ≡ line_at l.tables (process_owners l.tables true 0 l.sorts) l.fn.at v;
}
