use Rattle.std.proofs.Common.{◌≡◌, false, drop, map, ℕ}
use Rattle.promela_process.specs.Offers.{Offer}
use Rattle.promela_run.specs.declared.moves.Pick.{Pick}
use Rattle.promela_run.specs.declared.moves.Move.TheVariants.{Pair}
use Rattle.promela_run.specs.State.{reads}
use Rattle.run_state.specs.Standing.{shows}
use Rattle.promela_run.specs.Moves.{Message, each, accepts, only_if, pick, pairs_on}
use Rattle.run_search.specs.Demands.{may_take, HasNone}
use Rattle.run_search.proofs.Idle.{AreIdleTo}
use Rattle.run_search.proofs.demands.demand_on.Given as goal

-- none so far receives anything else, or gives a move where it is known to give none
abbrev pub invariant-loop-edge : goal.invariant-loop-edge
invariant-loop-edge l = record {
  one : (m : Message) → may_take l.demand.interests m ≡ false → may_take l.fn.so_far.interests m ≡ false;
  idle : HasNone l.live.state l.timeout l.demand.own → AreIdleTo l.live.state l.timeout l.j (shows l.body) l.edges l.edge-index;
  other : (k : Pick) (m : Message) (v : ℕ) → may_take l.demand.interests m ≡ false →
      each (λ i (o : Offer). only_if (accepts l.live.state.channels (reads l.live.state l.j l.timeout) m o.basic) (Pair k (pick l.j v i) l.timeout)) l.edge-index (map (shows l.body) (drop l.edge-index l.edges)) ≡ pairs_on l.live.state l.timeout k m l.j v (map (shows l.body) l.edges);
}
