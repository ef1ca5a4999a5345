use Rattle.std.proofs.Common.{◌≡◌, ◌++◌, drop, map, List, [], ℕ, false, if◌then◌else◌}
use Rattle.promela_process.specs.Offers.{Offer}
use Rattle.promela_run.specs.declared.moves.Move.{Move}
use Rattle.promela_run.specs.declared.moves.Move.TheVariants.{Alone}
use Rattle.run_state.specs.Standing.{shows}
use Rattle.run_search.specs.Kept.{Extends}
use Rattle.run_search.specs.Round.{else_on}
use Rattle.promela_run.specs.Moves.{each, is_else, moves_by, only_if, pick}
use Rattle.run_search.proofs.process.add_plain.Given as goal

-- what is added and the rest's are all; without an `else` so far the rest's are all `else` offers
abbrev pub invariant-loop-place : goal.invariant-loop-place
invariant-loop-place l =
    let f : ℕ → Offer → List Move = λ i o. if is_else o.basic then [] else moves_by l.round.live.now.state l.tier.process l.round.timeout l.body.proctype.now.body l.tier.level i o in
    let g : ℕ → Offer → List Move = λ i o. only_if (is_else o.basic) (Alone (pick l.tier.process l.tier.level i) l.round.timeout) in
    record {
      same : l.moves.items ++ each f l.place (map (shows l.body) (drop l.place l.edges)) ≡ l.initial.moves.items ++ each f 0 (map (shows l.body) l.edges);
      other : l.has_else ≡ false → each g l.place (map (shows l.body) (drop l.place l.edges)) ≡ else_on l.body l.tier l.round.timeout l.edges;
      kept : Extends l.moves.items l.initial.moves.items;
    }
