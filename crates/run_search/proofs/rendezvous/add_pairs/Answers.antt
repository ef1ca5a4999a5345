use Rattle.std.proofs.Common.{rules, to_z, of_z, w32, ◌≡◌, ◌++◌, ◌<◌, ◌≤◌, ℕ, List, length, append-nil, refl, sym, ap, ◌∙◌, arith}
use Rattle.promela_run.specs.declared.moves.Move.{Move}
use Rattle.run_state.specs.declared.seat.Seat.{Seat}
use Rattle.promela_run.specs.State.{Stand}
use Rattle.run_state.specs.Standing.{stand_of}
use Rattle.promela_run.specs.Moves.{each, pairs_with}
use Rattle.run_state.proofs.Finding.{held}
use Rattle.run_state.proofs.Placing.{seat_stands}
use Rattle.run_search.proofs.Keeping.{kept_same}
use Rattle.run_search.proofs.Waiting.{demands_at}
use Rattle.run_search.proofs.Listening.{outside, before, behind}
use Rattle.run_search.proofs.rendezvous.add_pairs.Goals as goal

pub loop-j-init : goal.loop-j-init
loop-j-init c =
    let s = c.args.live.now.state in
    let x = c.args.sending.now in
    let xs : List Seat = c.seats-seats.result.now in
    let f : ℕ → Stand → List Move = pairs_with s x.timeout x.sender x.message in
    let number : to_z w32 (of_z w32 c.number.result) ≡ c.number.result = search rules in
    let none = outside s x.timeout c.args.known x.sender x.message xs (to_z w32 (of_z w32 c.number.result)) c.heard-first.result.0 c.heard-first.result.1 c.requires c.seats-seats.ensures (number ∙ c.number.ensures) c.heard-first.ensures.among in
    record {
      same = ap (λ (z : List Move). c.args.moves.now.items ++ z) (before f (stand_of s.program) xs c.heard-first.result.0 (λ i y l e. none i y e (λ a b. omega (arith, l, a))));
      kept = kept_same c.args.moves.now.items c.args.moves.now.items refl;
    }

pub add_pairs_where-requires-clause-demands : goal.add_pairs_where-requires-clause-demands
add_pairs_where-requires-clause-demands c =
    let s = c.args.live.now.state in
    let x = c.args.sending.now in
    let xs : List Seat = c.seats-seats.result.now in
    let l : c.loop-j.j < length xs = omega (arith, c.loop-j-test.true, c.heard-first.ensures.within) in
    let at = seat_stands s.program xs s.stands c.loop-j.j _ c.seats-seats.ensures (held xs c.loop-j.j _ l) in
    demands_at s x.timeout c.args.known.demands.now c.loop-j.j _ c.requires.demands at x.sender x.message

pub returns-clause-added : goal.returns-clause-added
returns-clause-added c =
    let s = c.args.live.now.state in
    let x = c.args.sending.now in
    let xs : List Seat = c.seats-seats.result.now in
    let f : ℕ → Stand → List Move = pairs_with s x.timeout x.sender x.message in
    let over : c.heard-first.result.1 ≤ c.loop-j.j = omega (arith, c.loop-j-test.false) in
    let number : to_z w32 (of_z w32 c.number.result) ≡ c.number.result = search rules in
    let none = outside s x.timeout c.args.known x.sender x.message xs (to_z w32 (of_z w32 c.number.result)) c.heard-first.result.0 c.heard-first.result.1 c.requires c.seats-seats.ensures (number ∙ c.number.ensures) c.heard-first.ensures.among in
    let rest = behind f (stand_of s.program) xs c.loop-j.j (λ i y l e. none i y e (λ a b. omega (arith, l, b, over))) in
    sym (append-nil c.loop-j.moves.items)
    ∙ (ap (λ (z : List Move). c.loop-j.moves.items ++ z) (sym rest)
    ∙ (c.loop-j.invariant.same ∙ ap (λ (ys : List Stand). c.args.moves.now.items ++ each f 0 ys) c.seats-seats.ensures))
