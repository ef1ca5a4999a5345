use Rattle.std.proofs.Common.{◌≡◌, drop}
use Rattle.trail_text.specs.Parts.{has}
use Rattle.trail_text.proofs.scan.parted.Given as goal

abbrev pub invariant-loop-at : goal.invariant-loop-at
invariant-loop-at l = has (drop l.at l.text) l.word ≡ has l.text l.word
