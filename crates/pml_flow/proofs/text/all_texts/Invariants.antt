use Rattle.std.proofs.Common.{◌≡◌, ◌++◌, length, drop}
use Rattle.pml_flow.specs.Arms.{all_of, bounds_from}
use Rattle.pml_flow.specs.Composed.{texts_from, offer_lines_from}
use Rattle.pml_flow.proofs.text.all_texts.Given as goal

abbrev pub invariant-loop-number : goal.invariant-loop-number
invariant-loop-number l = record {
  so_far : l.bytes.items ++ all_of (texts_from l.statements l.number (drop l.number l.offered)) ≡ all_of (texts_from l.statements 0 l.offered);
  ends : l.bounds.items ++ bounds_from (length l.bytes.items) (texts_from l.statements l.number (drop l.number l.offered)) ≡ bounds_from 0 (texts_from l.statements 0 l.offered);
  on_lines : l.lines.items ++ offer_lines_from l.statements l.number (drop l.number l.offered) ≡ offer_lines_from l.statements 0 l.offered;
}
