use Rattle.std.proofs.Common.{◌≡◌, drop, map}
use Rattle.view_commands.specs.Others.{told_in}
use Rattle.view_commands.proofs.others.told_in.Given as goal

abbrev pub invariant-loop-other : goal.invariant-loop-other
invariant-loop-other l = told_in (map (λ o. (o.0.now, o.1.now)) (drop l.other-index l.others)) l.word ≡ told_in (map (λ o. (o.0.now, o.1.now)) l.others) l.word
