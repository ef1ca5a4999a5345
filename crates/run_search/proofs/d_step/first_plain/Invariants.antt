use Rattle.std.proofs.Common.{◌≡◌, drop, map}
use Rattle.std.specs.List.{filter}
use Rattle.pml_value.specs.Seen.{seen}
use Rattle.run_state.specs.Standing.{shows}
use Rattle.run_search.specs.Viewed.{first}
use Rattle.promela_run.specs.Moves.{is_choice}
use Rattle.run_search.proofs.d_step.first_plain.Given as goal

-- none is found so far
abbrev pub invariant-loop-edge : goal.invariant-loop-edge
invariant-loop-edge l =
    first (filter (is_choice l.lossy l.view.channels.now (seen l.view)) (map (shows l.body) (drop l.edge-index l.edges))) ≡ first (filter (is_choice l.lossy l.view.channels.now (seen l.view)) (map (shows l.body) l.edges))
