use Rattle.run_search.specs.Together.{StandThere}
use Rattle.run_search.proofs.common.next_elsewhere.Given as goal

-- each so far stands there
abbrev pub invariant-loop-at : goal.invariant-loop-at
invariant-loop-at l = StandThere l.live.state l.seat l.process l.at
