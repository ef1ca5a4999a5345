use Rattle.std.proofs.Common.{rules, ◌≡◌, ◌++◌, ◌+◌, ℕ, List, get_or, refl, ap, ◌∙◌, arith}
use Rattle.promela_run.specs.declared.moves.Move.{Move}
use Rattle.run_state.specs.declared.seat.Seat.{Seat}
use Rattle.run_search.specs.Round.{round_at, round_behind}
use Rattle.run_search.proofs.Together.{one_behind, only_there, seat_there}
use Rattle.run_search.proofs.runs.add_moves_of_run.Goals as goal

pub next_elsewhere-end-requires-clause-there : goal.next_elsewhere-end-requires-clause-there
next_elsewhere-end-requires-clause-there c =
    let s = c.args.round.now.live.now.state in
    let d : Seat = record { sort = 0; node = 0 } in
    only_there s (get_or c.seats.result.now c.args.process d) c.args.process (seat_there s c.seats.result.now c.args.process d c.seats.ensures c.requires.there)

pub returns-in_ok-add_moves_behind-clause-added : goal.returns-in_ok-add_moves_behind-clause-added
returns-in_ok-add_moves_behind-clause-added c =
    let r = c.args.round.now in
    let n = c.args.process in
    let d : Seat = record { sort = 0; node = 0 } in
    let x : Seat = get_or c.seats.result.now n d in
    let old : List Move = c.args.moves.now.items in
    let mid : List Move = c.add_moves_asked.new.moves.items in
    let added : mid ≡ old ++ round_at r n x = search (rules, c.in_ok-add_moves_asked.ensures) in
    let more : c.add_moves_behind.new.moves.items ++ round_behind r c.next_elsewhere-end.result ≡ mid ++ round_behind r (n + 1) = search (rules, c.in_ok-add_moves_behind.ensures) in
    more ∙ one_behind r x n mid old (old ++ round_behind r n) (seat_there r.live.now.state c.seats.result.now n d c.seats.ensures c.requires.there) added refl

pub returns-else-process-end-clause-added : goal.returns-else-process-end-clause-added
returns-else-process-end-clause-added c =
    let r = c.args.round.now in
    let n = c.args.process in
    let d : Seat = record { sort = 0; node = 0 } in
    let x : Seat = get_or c.seats.result.now n d in
    let old : List Move = c.args.moves.now.items in
    let mid : List Move = c.add_moves_asked.new.moves.items in
    let added : mid ≡ old ++ round_at r n x = search (rules, c.in_ok-add_moves_asked.ensures) in
    let is : c.next_elsewhere-end.result ≡ n + 1 = omega (arith, c.if-process-end.false, c.next_elsewhere-end.ensures.behind) in
    ap (λ (k : ℕ). mid ++ round_behind r k) is
    ∙ one_behind r x n mid old (old ++ round_behind r n) (seat_there r.live.now.state c.seats.result.now n d c.seats.ensures c.requires.there) added refl

pub add_moves_asked-requires-clause-stands : goal.add_moves_asked-requires-clause-stands
add_moves_asked-requires-clause-stands c =
    let d : Seat = record { sort = 0; node = 0 } in
    seat_there c.args.round.now.live.now.state c.seats.result.now c.args.process d c.seats.ensures c.requires.there
