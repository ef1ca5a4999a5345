use Rattle.std.proofs.Common.{◌≡◌, drop}
use Rattle.promela_process.specs.Store.{is_greater}
use Rattle.pml_channel.proofs.channel.greater.Given as goal

abbrev pub invariant-loop-i : goal.invariant-loop-i
invariant-loop-i l = is_greater (drop l.i l.a) (drop l.i l.b) ≡ is_greater l.a l.b
