use Rattle.std.proofs.Common.{◌≡◌, ◌++◌, drop, map, List, ℕ}
use Rattle.std.specs.Io.{StartsWith}
use Rattle.promela_run.specs.State.{Stand}
use Rattle.run_state.specs.Standing.{stand_of}
use Rattle.promela_run.specs.Moves.{each}
use Rattle.run_texts.specs.Staying.{stuck_by}
use Rattle.run_texts.proofs.ends.add_stuck.Given as goal

-- what is added and the rest's are all
abbrev pub invariant-loop-process : goal.invariant-loop-process
invariant-loop-process l =
    let f : ℕ → Stand → List ℕ = stuck_by l.live.state.program in
    record {
      same : l.text.items ++ each f l.process (map (stand_of l.live.state.program) (drop l.process l.seats)) ≡ l.initial.text.items ++ each f 0 (map (stand_of l.live.state.program) l.seats);
      kept : StartsWith l.text.items l.initial.text.items;
    }
