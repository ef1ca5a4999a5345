use Rattle.std.proofs.Common.{rules, to_z, of_z, w32, ◌≡◌, sym, subst, ◌∙◌}
use Rattle.std.specs.Prelude.{slice_get}
use Rattle.run_state.specs.Standing.{stand_of}
use Rattle.run_search.specs.declared.demand.OwnMoves.{OwnMoves}
use Rattle.run_search.specs.Demands.{own_at, HasNone}
use Rattle.run_search.proofs.Waiting.{none_there}
use Rattle.run_search.proofs.runs.has_no_move.Goals as goal

pub returns-in-Nothing : goal.returns-in-Nothing
returns-in-Nothing c = λ q.
    let r = c.args.round.now in
    let s = r.live.now.state in
    let is : own_at (slice_get r.demands.now c.args.process) ≡ _ = sym c.own_moves.ensures ∙ c.in-Nothing.is in
    none_there s r.timeout r.demands.now c.args.process (stand_of s.program c.args.seat) c.requires.known.demands c.requires.stands
    (subst (λ (o : OwnMoves). HasNone s r.timeout o) (sym is) tt)

pub returns-in-Over : goal.returns-in-Over
returns-in-Over c = λ q.
    let r = c.args.round.now in
    let s = r.live.now.state in
    let is : own_at (slice_get r.demands.now c.args.process) ≡ _ = sym c.own_moves.ensures ∙ c.in-Over.is in
    let number : to_z w32 (of_z w32 c.in-Over.number) ≡ c.in-Over.number = search rules in
    none_there s r.timeout r.demands.now c.args.process (stand_of s.program c.args.seat) c.requires.known.demands c.requires.stands
    (subst (λ (o : OwnMoves). HasNone s r.timeout o) (sym is) (λ k m e. c.is_unheard.ensures k m q (number ∙ e)))
