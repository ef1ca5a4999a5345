use Rattle.std.proofs.Common.{◌≡◌, take, false}
use Rattle.std.specs.List.{list_any}
use Rattle.prepare.specs.Stretches.{ends_line}
use Rattle.prepare.proofs.stretch.has_end.Given as goal

abbrev pub invariant-loop-b : goal.invariant-loop-b
invariant-loop-b l = list_any ends_line (take l.b-index l.gap) ≡ false
