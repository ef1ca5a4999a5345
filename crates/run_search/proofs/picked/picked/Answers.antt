use Rattle.std.proofs.Common.{rules, ◌≡◌, ap, ◌∙◌, Option, None}
use Rattle.std.specs.Prelude.{option_map}
use Rattle.run_search.specs.declared.picked.Offered.{Offered}
use Rattle.run_state.specs.Standing.{shows}
use Rattle.run_search.proofs.Placing.{picked_in}
use Rattle.run_state.proofs.Placing.{seat_stands}
use Rattle.run_search.proofs.picked.picked.Goals as goal

pub returns-in_err-edge-clause-offer : goal.returns-in_err-edge-clause-offer
returns-in_err-edge-clause-offer c =
    let none : c.from_residual-in_err-edge.result ≡ None = search rules in
    ap (λ (o : Option Offered). option_map (λ (k : Offered). shows k.body k.edge.now) o) none
    ∙ c.in_err-edge.ensures ∙ picked_in c.args.live.now.state c.args.pick c.in_ok-seat.field-0.now c.in_ok-body.body (seat_stands c.args.live.now.state.program _ _ c.args.pick.process c.in_ok-seat.field-0.now c.seats.ensures (search rules)) c.in_ok-body.ensures.left

pub returns-clause-offer : goal.returns-clause-offer
returns-clause-offer c =
    c.in_ok-edge.ensures ∙ picked_in c.args.live.now.state c.args.pick c.in_ok-seat.field-0.now c.in_ok-body.body (seat_stands c.args.live.now.state.program _ _ c.args.pick.process c.in_ok-seat.field-0.now c.seats.ensures (search rules)) c.in_ok-body.ensures.left
