use Rattle.run_search.specs.Listeners.{AreHeard}
use Rattle.run_search.proofs.listeners.all_listeners.Given as goal

-- each that was looked at lies where its channel is heard
abbrev pub invariant-loop-j : goal.invariant-loop-j
invariant-loop-j l = AreHeard l.demands l.spans.items l.any l.j
