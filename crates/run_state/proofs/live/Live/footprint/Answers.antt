use Rattle.std.proofs.Common.{rules, arith, ◌≡◌, ◌≤◌, ◌∙◌, ap, length}
use Rattle.std.proofs.lemmas.List.{length-map}
use Rattle.run_state.specs.declared.seat.Seat.{Seat}
use Rattle.run_state.specs.Footprint.{all_room}
use Rattle.run_state.proofs.Counting.{room_within, room_counted, all_within}
use Rattle.run_state.proofs.live.Live.footprint.Goals as goal

pub message_numbers-numbers-requires : goal.message_numbers-numbers-requires
message_numbers-numbers-requires c =
    rw c.as_slice.ensures.value (room_counted c.self.inside.played c.self.inside.started.channels.items c.self.invariant.bounded.counted c.self.invariant.bounded.live)

pub returns-clause-bound : goal.returns-clause-bound
returns-clause-bound c =
    let p = c.self.inside.played in
    let b = c.self.invariant.bounded in
    let cells : c.len-cells.result ≤ c.self.inside.started.store.most = omega (arith, c.len-cells.ensures, c.cells.result.now.ok.0, ap length c.cells.ensures.value, c.cells.ensures.few) in
    let numbers : c.message_numbers-numbers.result ≤ all_room c.self.inside.started.channels.items = rw c.as_slice.ensures.value at c.message_numbers-numbers.ensures.few in
    let seats : c.len.result ≡ length c.self.inside.seats.items = search rules in
    let sorts : length c.self.inside.started.sorts.items ≡ length c.self.inside.seats.items = ap length c.self.invariant.seated ∙ length-map c.self.inside.seats.items (λ (x : Seat). x.sort) in
    let channels : c.len-2.result ≡ length c.self.inside.started.channels.items = search rules in
    rw (← c.self.view_is)
    (all_within p c.len-cells.result c.self.inside.started.store.most c.message_numbers-numbers.result (all_room c.self.inside.started.channels.items) c.len.result c.len-2.result cells b.most numbers
    (room_within p c.self.inside.started.channels.items b.live) (omega (arith, seats, sorts, c.self.invariant.declared.few)) (omega (arith, channels, b.live.few)))

pub overflow_add-result : goal.overflow_add-result
overflow_add-result c =
    let b = c.self.invariant.bounded in
    let cells : c.len-cells.result ≤ c.self.inside.started.store.most = omega (arith, c.len-cells.ensures, c.cells.result.now.ok.0, ap length c.cells.ensures.value, c.cells.ensures.few) in
    let numbers : c.message_numbers-numbers.result ≤ all_room c.self.inside.started.channels.items = rw c.as_slice.ensures.value at c.message_numbers-numbers.ensures.few in
    let all = all_within c.self.inside.played c.len-cells.result c.self.inside.started.store.most c.message_numbers-numbers.result (all_room c.self.inside.started.channels.items) 0 0 cells b.most numbers
    (room_within c.self.inside.played c.self.inside.started.channels.items b.live) (omega arith) (omega arith) in
    omega (arith, all, b.counted)

pub overflow_add-result-2 : goal.overflow_add-result-2
overflow_add-result-2 c =
    let b = c.self.invariant.bounded in
    let cells : c.len-cells.result ≤ c.self.inside.started.store.most = omega (arith, c.len-cells.ensures, c.cells.result.now.ok.0, ap length c.cells.ensures.value, c.cells.ensures.few) in
    let numbers : c.message_numbers-numbers.result ≤ all_room c.self.inside.started.channels.items = rw c.as_slice.ensures.value at c.message_numbers-numbers.ensures.few in
    let seats : c.len.result ≡ length c.self.inside.seats.items = search rules in
    let sorts : length c.self.inside.started.sorts.items ≡ length c.self.inside.seats.items = ap length c.self.invariant.seated ∙ length-map c.self.inside.seats.items (λ (x : Seat). x.sort) in
    let all = all_within c.self.inside.played c.len-cells.result c.self.inside.started.store.most c.message_numbers-numbers.result (all_room c.self.inside.started.channels.items) c.len.result 0 cells b.most numbers
    (room_within c.self.inside.played c.self.inside.started.channels.items b.live) (omega (arith, seats, sorts, c.self.invariant.declared.few)) (omega arith) in
    omega (arith, all, b.counted)

pub overflow_add-result-3 : goal.overflow_add-result-3
overflow_add-result-3 c =
    let b = c.self.invariant.bounded in
    let cells : c.len-cells.result ≤ c.self.inside.started.store.most = omega (arith, c.len-cells.ensures, c.cells.result.now.ok.0, ap length c.cells.ensures.value, c.cells.ensures.few) in
    let numbers : c.message_numbers-numbers.result ≤ all_room c.self.inside.started.channels.items = rw c.as_slice.ensures.value at c.message_numbers-numbers.ensures.few in
    let seats : c.len.result ≡ length c.self.inside.seats.items = search rules in
    let sorts : length c.self.inside.started.sorts.items ≡ length c.self.inside.seats.items = ap length c.self.invariant.seated ∙ length-map c.self.inside.seats.items (λ (x : Seat). x.sort) in
    let channels : c.len-2.result ≡ length c.self.inside.started.channels.items = search rules in
    let all = all_within c.self.inside.played c.len-cells.result c.self.inside.started.store.most c.message_numbers-numbers.result (all_room c.self.inside.started.channels.items) c.len.result c.len-2.result cells b.most numbers
    (room_within c.self.inside.played c.self.inside.started.channels.items b.live) (omega (arith, seats, sorts, c.self.invariant.declared.few)) (omega (arith, channels, b.live.few)) in
    omega (arith, all, b.counted)
