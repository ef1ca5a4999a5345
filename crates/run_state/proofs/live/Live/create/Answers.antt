use Rattle.std.proofs.Common.{rules, ◌<◌, ◌∙◌, ap, sym, length, map, arith}
use Rattle.std.proofs.lemmas.List.{length-map}
use Rattle.pml_program.specs.declared.program.Program.{Program}
use Rattle.run_state.specs.declared.seat.Seat.{Seat}
use Rattle.run_state.specs.Standing.{stand_of}
use Rattle.run_state.proofs.Creating.{held_more, held_yet, bounded_more, popped, room_more, created_at}
use Rattle.run_state.proofs.live.Live.create.Goals as goal

pub invariant_of-self-else-is_err-2 : goal.invariant_of-self-else-is_err-2
invariant_of-self-else-is_err-2 c =
    let p = c.self.inside.played in
    let typedefs = ap (λ (p : Program). p.typedefs) c.beginnings.ensures in
    let old = c.self.inside.started in
    let new = c.create-created.new.started in
    let seats = c.self.inside.seats.items in
    let few : length (map (stand_of p) seats) < 255 = rw (← c.self.view_is) at c.requires in
    let less : length old.sorts.items < 255 = omega (arith, rw (length-map seats (stand_of p)) at few, ap length c.self.invariant.seated ∙ length-map seats (λ (x : Seat). x.sort)) in
    held_more p old.store new.store old.channels.items new.channels.items old.sorts.items new.sorts.items seats c.push.new.self.items c.begins-seat.result c.in-Some.proctype.now c.self.invariant less
    (search rules) (search rules) (search rules) (search rules) c.create-created.ensures.most
    (bounded_more p old.store new.store old.channels.items new.channels.items old.sorts.items new.sorts.items seats c.args.sort c.in-Some.proctype.now _ c.args.arguments.now c.create-created.result
    c.self.invariant typedefs (search rules) (rw c.as_slice.ensures at c.create-created.ensures.value) (sym c.is_err-2.ensures.value ∙ c.if-is_err-2.false))

pub create-created-requires-clause-room : goal.create-created-requires-clause-room
create-created-requires-clause-room c =
    let p = c.self.inside.played in
    let old = c.self.inside.started in
    let seats = c.self.inside.seats.items in
    let few : length (map (stand_of p) seats) < 255 = rw (← c.self.view_is) at c.requires in
    let less : length old.sorts.items < 255 = omega (arith, rw (length-map seats (stand_of p)) at few, ap length c.self.invariant.seated ∙ length-map seats (λ (x : Seat). x.sort)) in
    rw c.as_slice.ensures (room_more p old.store old.channels.items old.sorts.items seats c.args.sort c.in-Some.proctype.now c.self.invariant less (search rules))

pub invariant_of-self-then-is_err-2 : goal.invariant_of-self-then-is_err-2
invariant_of-self-then-is_err-2 c =
    let old = c.self.inside.started in
    let new = c.create-created.new.started in
    held_yet c.self.inside.played old.store new.store old.channels.items new.channels.items old.sorts.items new.sorts.items c.self.inside.seats.items c.pop.new.self.items c.self.invariant (search rules)
    (popped c.self.inside.seats.items c.pop.new.self.items c.push.new.self.items c.begins-seat.result _ (search rules) (search rules) c.pop.ensures.rest) c.create-created.ensures.most

pub returns-then-is_err-2-clause-value : goal.returns-then-is_err-2-clause-value
returns-then-is_err-2-clause-value c =
    let p = c.self.inside.played in
    let typedefs = ap (λ (p : Program). p.typedefs) c.beginnings.ensures in
    let old = c.self.inside.started in
    let new = c.create-created.new.started in
    rw (← c.self.view_is)
    (created_at p old.store new.store old.channels.items new.channels.items old.sorts.items new.sorts.items c.self.inside.seats.items c.pop.new.self.items c.self.inside.holder c.self.inside.lossy
    c.begins-seat.result c.in-Some.proctype.now c.args.sort c.begins-seat.ensures.sort _ c.args.arguments.now c.create-created.result typedefs c.self.invariant.seated (search rules) c.begins-seat.ensures.stands (search rules) (search rules))

pub returns-else-is_err-2-clause-value : goal.returns-else-is_err-2-clause-value
returns-else-is_err-2-clause-value c =
    let p = c.self.inside.played in
    let typedefs = ap (λ (p : Program). p.typedefs) c.beginnings.ensures in
    let old = c.self.inside.started in
    let new = c.create-created.new.started in
    rw (← c.self.view_is)
    (created_at p old.store new.store old.channels.items new.channels.items old.sorts.items new.sorts.items c.self.inside.seats.items c.push.new.self.items c.self.inside.holder c.self.inside.lossy
    c.begins-seat.result c.in-Some.proctype.now c.args.sort c.begins-seat.ensures.sort _ c.args.arguments.now c.create-created.result typedefs c.self.invariant.seated (search rules) c.begins-seat.ensures.stands (search rules) (search rules))
