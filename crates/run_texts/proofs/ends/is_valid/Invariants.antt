use Rattle.std.proofs.Common.{◌≡◌, drop, map}
use Rattle.std.specs.List.{list_all}
use Rattle.run_state.specs.Standing.{stand_of}
use Rattle.promela_run.specs.World.{is_done, is_valid}
use Rattle.run_texts.proofs.ends.is_valid.Given as goal

-- whether all end well is whether the rest do
abbrev pub invariant-loop-seat : goal.invariant-loop-seat
invariant-loop-seat l =
    list_all (is_done l.live.state.program) (map (stand_of l.live.state.program) (drop l.seat-index l.seats)) ≡ is_valid l.live.state
