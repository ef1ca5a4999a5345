use Rattle.std.proofs.Common.{◌≡◌, ◌++◌, replicate}
use Rattle.prepare.proofs.numbering.add_feeds.Given as goal

abbrev pub invariant-loop-i : goal.invariant-loop-i
invariant-loop-i l = l.out.items ≡ l.initial.out.items ++ replicate l.i 10
