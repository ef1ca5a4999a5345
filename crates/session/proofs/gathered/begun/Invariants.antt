use Rattle.std.proofs.Common.{◌≡◌, ◌-◌, take}
use Rattle.session.specs.Gathered.{later}
use Rattle.session.proofs.gathered.begun.Given as goal

abbrev pub invariant-loop-begin : goal.invariant-loop-begin
invariant-loop-begin l = l.count ≡ l.steps - later l.taken (take l.begin-index l.begins)
