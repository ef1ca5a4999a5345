use Rattle.std.proofs.Common.{◌≡◌, ◌-◌, length}
use Rattle.promela_run.specs.State.{last_field, leaf}
use Rattle.run_layout.specs.Tables.{field_by}
use Rattle.run_layout.proofs.typedefs.Typedefs.leaf.Given as goal

-- from the field so far on, what is left leads to the same
abbrev pub invariant-loop-step : goal.invariant-loop-step
invariant-loop-step l = record {
  form : l.form ≡ (field_by l.self l.slot l.found).form;
  same : last_field l.self (length l.self - l._step) (field_by l.self l.slot l.found) l.cell ≡ leaf l.self l.slot l.fn.cell;
}
