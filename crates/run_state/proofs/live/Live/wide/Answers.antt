use Rattle.std.proofs.Common.{rules, ◌≡◌, Some, slice_get}
use Rattle.run_state.proofs.Widely.{wides_there}
use Rattle.run_state.proofs.live.Live.wide.Goals as goal

pub returns-in-Some : goal.returns-in-Some
returns-in-Some c =
    let h : slice_get c.self.inside.seats.items c.args.process ≡ Some c.in-Some.seat.now = search rules in
    rw (← c.self.view_is) (wides_there c.self.inside.played c.self.inside.seats.items c.args.process c.args.statement c.in-Some.seat.now c.wide.result h c.wide.ensures)
