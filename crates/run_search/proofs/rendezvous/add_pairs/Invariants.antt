use Rattle.std.proofs.Common.{◌≡◌, ◌++◌, drop, map, List, ℕ}
use Rattle.promela_run.specs.declared.moves.Move.{Move}
use Rattle.promela_run.specs.State.{Stand}
use Rattle.run_state.specs.Standing.{stand_of}
use Rattle.run_search.specs.Kept.{Extends}
use Rattle.promela_run.specs.Moves.{each, pairs_with}
use Rattle.run_search.proofs.rendezvous.add_pairs.Given as goal

-- what is added and the rest's are all
abbrev pub invariant-loop-j : goal.invariant-loop-j
invariant-loop-j l =
    let f : ℕ → Stand → List Move = pairs_with l.live.state l.sending.timeout l.sending.sender l.sending.message in
    record {
      same : l.moves.items ++ each f l.j (map (stand_of l.live.state.program) (drop l.j l.seats)) ≡ l.initial.moves.items ++ each f 0 (map (stand_of l.live.state.program) l.seats);
      kept : Extends l.moves.items l.initial.moves.items;
    }
