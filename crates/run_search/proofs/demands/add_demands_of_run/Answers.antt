use Rattle.std.proofs.Common.{◌≡◌, ◌++◌, List, [], ◌∷◌, get_or, sym, subst}
use Rattle.run_state.specs.declared.seat.Seat.{Seat}
use Rattle.run_search.specs.declared.demand.Demand.{Demand}
use Rattle.run_search.specs.Demands.{AreDemands}
use Rattle.run_search.proofs.Waiting.{demands_push}
use Rattle.run_search.proofs.Together.{only_there, seat_there}
use Rattle.run_search.proofs.demands.add_demands_of_run.Goals as goal

pub next_elsewhere-end-requires-clause-there : goal.next_elsewhere-end-requires-clause-there
next_elsewhere-end-requires-clause-there c =
    let s = c.args.live.now.state in
    let d : Seat = record { sort = 0; node = 0 } in
    only_there s (get_or c.seats.result.now c.args.j d) c.args.j (seat_there s c.seats.result.now c.args.j d c.seats.ensures c.requires.there)

pub add_demands_behind-requires-clause-known : goal.add_demands_behind-requires-clause-known
add_demands_behind-requires-clause-known c =
    let s = c.args.live.now.state in
    let d : Seat = record { sort = 0; node = 0 } in
    let e : c.push.new.self.items ≡ c.args.demands.now.items ++ c.demand_of.result ∷ [] = c.in_ok-push.ensures.items in
    subst (λ (xs : List Demand). AreDemands s c.args.timeout xs) (sym e)
    (demands_push s c.args.timeout c.args.demands.now.items c.demand_of.result c.args.j _ c.requires.known (sym c.requires.many)
    (seat_there s c.seats.result.now c.args.j d c.seats.ensures c.requires.there) c.demand_of.ensures)

pub returns-else-j-end-clause-demands : goal.returns-else-j-end-clause-demands
returns-else-j-end-clause-demands c =
    let s = c.args.live.now.state in
    let d : Seat = record { sort = 0; node = 0 } in
    let e : c.push.new.self.items ≡ c.args.demands.now.items ++ c.demand_of.result ∷ [] = c.in_ok-push.ensures.items in
    subst (λ (xs : List Demand). AreDemands s c.args.timeout xs) (sym e)
    (demands_push s c.args.timeout c.args.demands.now.items c.demand_of.result c.args.j _ c.requires.known (sym c.requires.many)
    (seat_there s c.seats.result.now c.args.j d c.seats.ensures c.requires.there) c.demand_of.ensures)
