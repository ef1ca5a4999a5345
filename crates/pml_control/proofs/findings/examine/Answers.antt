use Rattle.std.proofs.Common.{◌≡◌, ◌∙◌, ◌<◌, sym, ap, subst, List, Option, ℕ, length, true, false, MatchBool}
use Rattle.pml_control.specs.Ends.{StaysWithin, AreEnds}
use Rattle.pml_control.specs.Graph.{Spot, nexts, bad_step, spot_of}
use Rattle.pml_control.proofs.Circling.{stays_within, decides}
use Rattle.pml_control.proofs.First.{decides_first}
use Rattle.pml_control.proofs.findings.examine.Goals as goal

pub ends-requires : goal.ends-requires
ends-requires c =
    let e = c.as_slice-2.ensures.value ∙ c.in_ok-next.ensures ∙ ap nexts (c.as_slice.ensures.value ∙ c.in_ok-posts.ensures) in
    subst (λ (ns : List (Option ℕ)). StaysWithin ns) (sym e) (stays_within c.args.body.now)

pub returns-clause-circle : goal.returns-clause-circle
returns-clause-circle c =
    let e = c.as_slice-2.ensures.value ∙ c.in_ok-next.ensures ∙ ap nexts (c.as_slice.ensures.value ∙ c.in_ok-posts.ensures) in
    decides c.args.body.now c.as_slice-3.result.now c.any_circles-circle.result
    (subst (λ (ns : List (Option ℕ)). AreEnds ns c.as_slice-3.result.now) e (rw c.as_slice-3.ensures.value c.in_ok-ends.ensures))
    c.any_circles-circle.ensures

pub returns-clause-first_point : goal.returns-clause-first_point
returns-clause-first_point c =
    let e = c.as_slice-2.ensures.value ∙ c.in_ok-next.ensures ∙ ap nexts (c.as_slice.ensures.value ∙ c.in_ok-posts.ensures) in
    let n = c.as_slice-4.ensures.value ∙ c.in_ok-posts.ensures in
    let es = c.as_slice-5.result.now in
    decides_first c.args.body.now es
    (subst (λ (ns : List (Option ℕ)). AreEnds ns es) e (rw c.as_slice-5.ensures.value c.in_ok-ends.ensures))
    c.any_bad-bad_first_point.result
    (subst (λ (ns : List Spot). MatchBool c.any_bad-bad_first_point.result ((i : ℕ) × (i < length ns) × (bad_step ns es (spot_of ns i).d_step ≡ true)) ((i : ℕ) → i < length ns → bad_step ns es (spot_of ns i).d_step ≡ false)) n c.any_bad-bad_first_point.ensures)
