use Rattle.run_search.proofs.First.{of_seat}
use Rattle.run_search.proofs.Together.{seat_there}
use Rattle.run_search.proofs.search.add_moves.Goals as goal

pub add_moves_first-requires-clause-first : goal.add_moves_first-requires-clause-first
add_moves_first-requires-clause-first c =
    of_seat c.args.live.now.state c.in-Some.process c.seats.result.now (record { sort = 0; node = 0 }) c.seats.ensures c.in-Some.ensures.there c.in-Some.ensures.first

pub add_moves_first-requires-clause-stands : goal.add_moves_first-requires-clause-stands
add_moves_first-requires-clause-stands c =
    seat_there c.args.live.now.state c.seats.result.now c.in-Some.process (record { sort = 0; node = 0 }) c.seats.ensures c.in-Some.ensures.there
