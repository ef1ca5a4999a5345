use Rattle.std.proofs.Common.{◌≡◌, drop}
use Rattle.run_start.specs.Known.{are_zero}
use Rattle.run_start.proofs.beginnings.are_zero.Given as goal

-- none so far
abbrev pub invariant-loop-field : goal.invariant-loop-field
invariant-loop-field l = are_zero (drop l.field-index l.fields) ≡ are_zero l.fields
