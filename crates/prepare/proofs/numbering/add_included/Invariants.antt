use Rattle.std.proofs.Common.{◌≡◌, ◌++◌, take, map}
use Rattle.prepare.specs.Numbering.{included}
use Rattle.prepare.proofs.numbering.add_included.Given as goal

abbrev pub invariant-loop-b : goal.invariant-loop-b
invariant-loop-b l = l.out.items ≡ l.initial.out.items ++ map included (take l.b-index l.line)
