use Rattle.std.proofs.Common.{◌≡◌, drop}
use Rattle.trail_text.specs.Parts.{behind_blanks}
use Rattle.trail_text.proofs.scan.behind_blanks.Given as goal

abbrev pub invariant-loop-at : goal.invariant-loop-at
invariant-loop-at l = behind_blanks (drop l.at l.text) ≡ behind_blanks l.text
