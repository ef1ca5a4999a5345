use Rattle.std.proofs.Common.{◌≡◌, ◌-◌, ◌++◌, length}
use Rattle.std.specs.Io.{StartsWith}
use Rattle.promela_run.specs.Lines.{fields_path}
use Rattle.run_values.proofs.place.fields_path.Given as goal

-- the text so far and what the fields that are left add
abbrev pub invariant-loop-step : goal.invariant-loop-step
invariant-loop-step l = record {
  same : l.text.items ++ fields_path l.typedefs (length l.typedefs - l._step) l.form l.cell ≡ l.initial.text.items ++ fields_path l.typedefs (length l.typedefs) l.initial.form l.initial.cell;
  kept : StartsWith l.text.items l.initial.text.items;
}
