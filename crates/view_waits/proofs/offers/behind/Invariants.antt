-- what is behind is behind in the rest
use Rattle.std.proofs.Common.{◌≡◌, drop}
use Rattle.view_waits.specs.Offers.{behind}
use Rattle.view_waits.proofs.offers.behind.Given as goal

abbrev pub invariant-loop-i : goal.invariant-loop-i
invariant-loop-i l = behind l.text ≡ behind (drop l.i l.text)
