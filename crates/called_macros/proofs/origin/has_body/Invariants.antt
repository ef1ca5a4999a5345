use Rattle.std.proofs.Common.{◌≡◌, take, false}
use Rattle.std.specs.List.{list_any}
use Rattle.called_macros.specs.Origins.{is_body}
use Rattle.called_macros.proofs.origin.has_body.Given as goal

abbrev pub invariant-loop-atom : goal.invariant-loop-atom
invariant-loop-atom l = list_any is_body (take l.atom-index l.atoms) ≡ false
