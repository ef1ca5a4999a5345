use Rattle.std.proofs.Common.{◌≡◌, ◌++◌, drop, map, List, ℕ}
use Rattle.promela_process.specs.Offers.{Offer}
use Rattle.promela_run.specs.declared.moves.Move.{Move}
use Rattle.promela_run.specs.declared.moves.Move.TheVariants.{Alone}
use Rattle.run_state.specs.Standing.{shows}
use Rattle.run_search.specs.Kept.{Extends}
use Rattle.promela_run.specs.Moves.{each, is_else, only_if, pick}
use Rattle.run_search.proofs.process.add_else.Given as goal

-- what is added and the rest's are all
abbrev pub invariant-loop-place : goal.invariant-loop-place
invariant-loop-place l =
    let f : ℕ → Offer → List Move = λ i o. only_if (is_else o.basic) (Alone (pick l.tier.process l.tier.level i) l.timeout) in
    record {
      same : l.moves.items ++ each f l.place (map (shows l.body) (drop l.place l.edges)) ≡ l.initial.moves.items ++ each f 0 (map (shows l.body) l.edges);
      kept : Extends l.moves.items l.initial.moves.items;
    }
