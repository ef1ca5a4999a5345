use Rattle.std.proofs.Common.{◌≡◌, ◌++◌, ◌∷◌, [], drop, map, List, ℕ}
use Rattle.promela_process.specs.Offers.{Offer}
use Rattle.pml_value.specs.Seen.{seen}
use Rattle.run_state.specs.Standing.{shows}
use Rattle.promela_run.specs.Moves.{each, pick}
use Rattle.view_waits.specs.declared.waits.Wait.{Wait}
use Rattle.view_waits.specs.Waits.{wait_of}
use Rattle.view_waits.proofs.waits.add_level.Given as goal

-- what is added and the rest's are all
abbrev pub invariant-loop-place : goal.invariant-loop-place
invariant-loop-place l =
    let f : ℕ → Offer → List Wait = λ i o. wait_of l.view.channels.now (seen l.view) (pick l.first.process l.first.level i) o ∷ [] in
    l.waits.items ++ each f l.place (map (shows l.body) (drop l.place l.edges)) ≡ l.initial.waits.items ++ each f 0 (map (shows l.body) l.edges)
