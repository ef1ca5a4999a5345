use Rattle.std.proofs.Common.{◌≡◌, false, drop}
use Rattle.promela_run.specs.declared.moves.Pick.{Pick}
use Rattle.run_state.specs.Standing.{offers_at}
use Rattle.promela_run.specs.Moves.{Message, last, pairs_on}
use Rattle.run_search.specs.Demands.{may_take}
use Rattle.run_search.proofs.demands.demand_down.Given as goal

-- no level so far receives anything else
abbrev pub invariant-loop-level : goal.invariant-loop-level
invariant-loop-level l =
    (k : Pick) (m : Message) → may_take l.demand.interests m ≡ false →
    last (pairs_on l.live.state l.timeout k m l.j) l.level (drop l.level (offers_at l.body l.node)) ≡ last (pairs_on l.live.state l.timeout k m l.j) 0 (offers_at l.body l.node)
