use Rattle.std.proofs.Common.{◌≡◌, ◌+◌, drop}
use Rattle.std.specs.List.{prefix_len}
use Rattle.trail_text.specs.Numbers.{is_digit}
use Rattle.trail_text.proofs.scan.digit_count.Given as goal

abbrev pub invariant-loop-at : goal.invariant-loop-at
invariant-loop-at l = l.at + prefix_len is_digit (drop l.at l.text) ≡ prefix_len is_digit l.text
