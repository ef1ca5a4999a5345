use Rattle.std.proofs.Common.{rules, ◌≡◌, ◌+◌, ◌-◌, ◌<◌, ◌∙◌, ap, sym, length, map, take, arith, ℕ}
use Rattle.std.proofs.lemmas.List.{length-map}
use Rattle.pml_store.specs.Writing.{Contents}
use Rattle.run_start.proofs.Declaring.{frames_of_sorts}
use Rattle.run_state.specs.declared.seat.Seat.{Seat}
use Rattle.run_state.specs.Standing.{stand_of}
use Rattle.run_state.proofs.Dying.{map-take, declared_less, bounded_left, live_died}
use Rattle.run_state.proofs.live.Live.die.Goals as goal

pub pop_frame-requires : goal.pop_frame-requires
pop_frame-requires c =
    let m = frames_of_sorts c.self.inside.played c.self.inside.started.store.frames c.self.inside.started.sorts.items c.self.invariant.declared in
    omega (arith, m)

one_more : (m n : ℕ) → 0 < m → n ≡ m → m ≡ n - 1 + 1
one_more m n h e = omega (arith, h, e)

pub invariant_of-self : goal.invariant_of-self
invariant_of-self c =
    let seats = c.self.inside.seats.items in
    let some : 0 < length (map (stand_of c.self.inside.played) seats) = rw (← c.self.view_is) at c.requires in
    let n : ℕ = c.len-youngest.result - 1 in
    let whole : c.len-youngest.result ≡ length seats = search rules in
    let count : length seats ≡ n + 1 = one_more (length seats) c.len-youngest.result (rw (length-map seats (stand_of c.self.inside.played)) at some) whole in
    let sorts : length c.self.inside.started.sorts.items ≡ n + 1 = ap length c.self.invariant.seated ∙ length-map seats (λ (x : Seat). x.sort) ∙ count in
    record {
      declared =
          rw c.truncate.ensures.items
          (rw c.pop_frame.ensures
          (declared_less c.self.inside.played c.self.inside.started.store.frames c.self.inside.started.sorts.items n c.self.invariant.declared sorts));
      seated =
          c.truncate.ensures.items ∙ ap (take n) c.self.invariant.seated ∙ sym (map-take (λ (x : Seat). x.sort) n seats)
          ∙ sym (ap (map (λ (x : Seat). x.sort)) c.truncate-2.ensures.items);
      bounded = record {
        counted = c.self.invariant.bounded.counted;
        most = ap (λ (s : Contents). s.most) c.pop_frame.ensures ∙ c.self.invariant.bounded.most;
        live = bounded_left c.self.inside.played _ c.self.inside.started.channels.items c.keep_others.new.channels.items c.self.invariant.bounded.live c.keep_others.ensures;
      };
    }

pub returns : goal.returns
returns c =
    let seats = c.self.inside.seats.items in
    let some : 0 < length (map (stand_of c.self.inside.played) seats) = rw (← c.self.view_is) at c.requires in
    let n : ℕ = c.len-youngest.result - 1 in
    let whole : c.len-youngest.result ≡ length seats = search rules in
    let count : length seats ≡ n + 1 = one_more (length seats) c.len-youngest.result (rw (length-map seats (stand_of c.self.inside.played)) at some) whole in
    let frames = frames_of_sorts c.self.inside.played c.self.inside.started.store.frames c.self.inside.started.sorts.items c.self.invariant.declared in
    let sorts : length c.self.inside.started.sorts.items ≡ length seats = ap length c.self.invariant.seated ∙ length-map seats (λ (x : Seat). x.sort) in
    rw (← c.self.view_is)
    (live_died c.self.inside.played c.self.inside.started.store c.pop_frame.new.self c.self.inside.started.channels.items c.keep_others.new.channels.items seats c.truncate-2.new.self.items c.self.inside.holder c.self.inside.lossy n count
    (frames ∙ ap (λ (m : ℕ). m + 1) sorts) c.pop_frame.ensures (search rules) c.truncate-2.ensures.items)
