use Rattle.std.proofs.Common.{◌≡◌, ◌++◌, take, map}
use Rattle.prepare.specs.Spelling.{blank}
use Rattle.prepare.proofs.spelling.add_blanks.Given as goal

abbrev pub invariant-loop-b : goal.invariant-loop-b
invariant-loop-b l = l.out.items ≡ l.initial.out.items ++ map blank (take l.b-index l.token)
