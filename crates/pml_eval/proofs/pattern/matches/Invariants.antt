use Rattle.std.proofs.Common.{◌≡◌, drop}
use Rattle.promela_process.specs.Expressions.{matched}
use Rattle.pml_eval.proofs.pattern.matches.Given as goal

abbrev pub invariant-loop-i : goal.invariant-loop-i
invariant-loop-i l = matched (drop l.i l.sought) (drop l.i l.fields) ≡ matched l.sought l.fields
