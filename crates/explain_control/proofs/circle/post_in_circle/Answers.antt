use Rattle.std.proofs.Common.{◌∙◌, ap, sym, List, Bool, true, slice_index_or}
use Rattle.std.proofs.Common.{length-set}
use Rattle.explain_control.proofs.Rounds.{comes_back, back_on, circling_on, open_is}
use Rattle.explain_control.proofs.circle.post_in_circle.Goals as goal

pub returns-then-is_passed : goal.returns-then-is_passed
returns-then-is_passed c =
    let i = c.loop-there.invariant in
    comes_back c.args.next.now c.loop-there.passed.items c.loop-there.here c.in-Some.there i.long i.goes i.back (sym c.next_of.ensures ∙ c.in-Some.is)
    (ap (λ (ps : List Bool). slice_index_or ps c.in-Some.there true) (sym c.deref.ensures.value) ∙ sym c.is_passed.ensures ∙ c.if-is_passed.true)

pub loop-there-preserved : goal.loop-there-preserved
loop-there-preserved c =
    let i = c.loop-there.invariant in
    let e = sym c.next_of.ensures ∙ c.in-Some.is in
    let free = open_is c.loop-there.passed.items c.in-Some.there (ap (λ (ps : List Bool). slice_index_or ps c.in-Some.there true) (sym c.deref.ensures.value) ∙ sym c.is_passed.ensures ∙ c.if-is_passed.false) in
    record {
      long = length-set c.loop-there.passed.items c.in-Some.there true ∙ i.long;
      goes = circling_on c.args.next.now c.loop-there.here c.in-Some.there i.goes e;
      back = back_on c.args.next.now c.loop-there.passed.items c.loop-there.here c.in-Some.there free.0 i.back e;
    }
