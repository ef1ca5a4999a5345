use Rattle.std.proofs.Common.{◌≡◌, drop, map}
use Rattle.std.specs.List.{filter}
use Rattle.run_state.specs.Standing.{shows}
use Rattle.run_search.specs.Viewed.{first}
use Rattle.run_search.proofs.d_step.first_else.Given as goal
use Rattle.run_search.specs.Lifted.{is_other}

-- none is found so far
abbrev pub invariant-loop-edge : goal.invariant-loop-edge
invariant-loop-edge l = first (filter is_other (map (shows l.body) (drop l.edge-index l.edges))) ≡ first (filter is_other (map (shows l.body) l.edges))
