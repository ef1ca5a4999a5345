use Rattle.std.proofs.Common.{◌≡◌, drop}
use Rattle.std.specs.List.{fold}
use Rattle.trail_text.specs.Numbers.{digit_behind, number}
use Rattle.trail_text.proofs.scan.number_of.Given as goal

abbrev pub invariant-loop-digit : goal.invariant-loop-digit
invariant-loop-digit l = fold digit_behind l.number (drop l.digit-index l.digits) ≡ number l.digits
