use Rattle.view_condition.proofs.Seats.{seats_same}
use Rattle.view_condition.proofs.subject.is_same_seat.Goals as goal

pub returns-in-Some-Some : goal.returns-in-Some-Some
returns-in-Some-Some c =
    seats_same c.args.live.now.state c.args.seat c.args.other c.in-Some-Some.field-0-0 c.in-Some-Some.field-0-1 c.requires c.in-Some-Some.ensures.left
    c.in-Some-Some.ensures'.left
