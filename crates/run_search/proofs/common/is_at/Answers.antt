use Rattle.std.proofs.Common.{Some, ap, ◌∙◌}
use Rattle.run_state.specs.declared.seat.Seat.{Seat}
use Rattle.run_state.specs.Standing.{stand_of}
use Rattle.run_search.proofs.Together.{only_there, seat_there}
use Rattle.run_search.proofs.common.is_at.Goals as goal

pub returns : goal.returns
returns c same =
    let s = c.args.live.now.state in
    let d : Seat = record { sort = 0; node = 0 } in
    only_there s c.args.seat c.args.at
    (seat_there s c.seats.result.now c.args.at d c.seats.ensures c.requires
    ∙ ap (λ (x : Seat). Some (stand_of s.program x)) (c.is_same.ensures same))
