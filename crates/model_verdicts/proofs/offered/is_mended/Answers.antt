use Rattle.std.proofs.Common.{◌≡◌, ◌∙◌, ap, length, arith}
use Rattle.model_verdicts.specs.Better.{seen_by}
use Rattle.model_verdicts.proofs.Offering.{further_by}
use Rattle.model_verdicts.proofs.offered.is_mended.Goals as goal

pub returns-in-Some : goal.returns-in-Some
returns-in-Some c =
    let size : c.len.result ≡ length c.in_ok-then.then.items = omega (arith, c.in_ok-then.then.ok.0) in
    further_by c.args.text.now c.in_ok-then.then.items c.deref.result.now c.args.verdict.now c.in-Some.other c.args.exchange c.in_ok-other.field-0
    c.seen_by-before.result c.seen_by.result (length c.words_of-written.result.now) c.is_further.result c.in_ok-then.ensures c.deref.ensures.value c.in-Some.is
    c.in_ok-other.ensures c.seen_by-before.ensures (c.seen_by.ensures ∙ ap (seen_by c.in-Some.other) size)
    (ap length c.words_of-written.ensures) c.is_further.ensures
