use Rattle.std.proofs.Common.{rules, ◌≡◌, ◌<◌, ℤ, to_z, of_z, w32, sym, subst, arith}
use Rattle.std.specs.Prelude.{slice_get}
use Rattle.run_search.specs.Listeners.{place_of, Hears}
use Rattle.run_search.proofs.Listening.{unheard}
use Rattle.run_search.proofs.round.is_unheard.Goals as goal

pub returns : goal.returns
returns c offer m none of =
    unheard c.args.round.now.live.now.state c.args.round.now.timeout c.known.result offer m c.args.number c.known.ensures of (λ i l h.
    let k : i < c.process_count.result = omega (arith, l, c.process_count.ensures.value) in
    let z : to_z w32 (of_z w32 c.args.number) ≡ c.args.number = search rules in
    c.is_unheard.ensures none i k (subst (λ (x : ℤ). Hears (slice_get c.known.result.spans.now (place_of x)) c.known.result.any i) (sym z) h))
