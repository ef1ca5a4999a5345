use Rattle.std.proofs.Common.{rules, ◌∙◌, ◌≡◌, ap, sym}
use denote.Enum.Bare.{same_true}
use Rattle.std.specs.Cmp.Lexicographic.{pointwise}
use Rattle.std.specs.Ordering.{int_eq}
use Rattle.std.proofs.lemmas.Bool.{eqb-true, true≢false}
use Rattle.std.proofs.lemmas.Bool.Decides.{Decides-int_eq}
use Rattle.std.proofs.lemmas.Slice.Eq.{slice_eq-Decides}
use Rattle.view_waits.specs.contracts.transfer.Does.{the_type}
use Rattle.view_json.specs.Lines.{Dealing}
use Rattle.view_json.proofs.deal.are_same.Goals as goal
use Rattle.view_json.proofs.deal.are_same.Goals.{then-eq, else-eq}

pub returns-then-one-other : goal.returns-then-one-other
returns-then-one-other c =
    let one = c.args.one.now in
    let other = c.args.other.now in
    let fronts : (one.does ≡ other.does) × (one.channel ≡ other.channel) = elim c.if-eq.branch [
      | then-eq w ↦ (same_true the_type (search rules) _ _ (sym c.eq.ensures ∙ w.if-eq.true), eqb-true _ _ (sym w.value-is ∙ c.if-one-other.true))
      | else-eq w ↦ absurd (true≢false (sym c.if-one-other.true ∙ w.value-is ∙ w.if-eq.false))
    ] in
    let message = slice_eq-Decides Decides-int_eq one.message.items other.message.items c.eq-then-one-other.result
    (c.eq-then-one-other.ensures ∙ (λ i. pointwise int_eq (c.as_slice.ensures.value i) (c.as_slice-then-one-other.ensures.value i))) in (
      λ same. λ i. record { does = fronts.0 i; channel = fronts.1 i; message = message.0 same i },
      λ same. message.1 (ap (λ (d : Dealing). d.message) same),
    )
