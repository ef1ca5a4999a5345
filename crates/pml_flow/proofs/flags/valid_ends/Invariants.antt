use Rattle.std.proofs.Common.{◌≡◌, drop, replicate, false}
use Rattle.pml_flow.specs.Marked.{flag, marked}
use Rattle.pml_flow.proofs.flags.valid_ends.Given as goal

abbrev pub invariant-loop-number : goal.invariant-loop-number
invariant-loop-number l =
    marked l.statements l.number l.ends.items (drop l.number l.targets) ≡ marked l.statements 0 (flag (replicate l.count false) 0) l.targets
