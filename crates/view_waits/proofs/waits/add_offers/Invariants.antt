use Rattle.std.proofs.Common.{◌≡◌, ◌++◌, drop}
use Rattle.pml_value.specs.Seen.{seen}
use Rattle.run_state.specs.Standing.{offers_at}
use Rattle.promela_run.specs.Moves.{each}
use Rattle.view_waits.specs.Waits.{waits_on}
use Rattle.view_waits.proofs.waits.add_offers.Given as goal

-- what is added and the rest's are all
abbrev pub invariant-loop-level : goal.invariant-loop-level
invariant-loop-level l =
    l.waits.items ++ each (waits_on l.view.channels.now (seen l.view) l.process) l.level (drop l.level (offers_at l.body l.node))
    ≡ l.initial.waits.items ++ each (waits_on l.view.channels.now (seen l.view) l.process) 0 (offers_at l.body l.node)
