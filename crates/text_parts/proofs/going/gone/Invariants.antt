use Rattle.std.proofs.Common.{◌≡◌, ◌≤◌, ◌+◌, drop}
use Rattle.text_parts.specs.Going.{start, gone}
use Rattle.text_parts.proofs.going.gone.Given as goal

abbrev pub invariant-loop-i : goal.invariant-loop-i
invariant-loop-i l = record {
  lines : l.place.line ≤ l.i;
  columns : l.place.column ≤ l.i + l.i;
  rest : gone l.unit l.place (drop l.i l.bytes) ≡ gone l.unit start l.bytes;
}
