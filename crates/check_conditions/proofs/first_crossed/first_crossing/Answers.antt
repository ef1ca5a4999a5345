use Rattle.std.proofs.Common.{◌≡◌, ◌<◌, ◌∙◌, sym, ap, arith, length, false, take}
use Rattle.std.proofs.lemmas.Option.{slice_get_within}
use Rattle.promela_model.specs.Decided.{crosses, round, crosses_step}
use Rattle.check_conditions.specs.Open.{passed, top}
use Rattle.check_names.specs.Places.{stands}
use Rattle.promela_model.specs.declared.condition.Condition.TheVariants as condition
use Rattle.check_conditions.proofs.Looking.{none_more}
use Rattle.check_conditions.proofs.Stopping.{first_here}
use Rattle.check_conditions.proofs.Open.{rounds_more, here_round, labels_same}
use Rattle.check_conditions.proofs.first_crossed.first_crossing.Goals as goal

pub loop-i-preserved : goal.loop-i-preserved
loop-i-preserved c =
    let m = c.index-marks-i.result in
    let i = c.loop-i.i in
    let ms = c.args.marks.now in
    let same = c.loop-i.invariant.here in
    let labels = stands c.in_ok-labels.labels.numbers c.in_ok-labels.labels.places in
    let b : crosses_step ms (take i ms) m ≡ false =
    ap (λ f. crosses f (round (take i ms)) m.owner m.what) (sym (labels_same ms c.in_ok-labels.labels c.in_ok-labels.ensures))
    ∙ ap (λ r. crosses labels r m.owner m.what) (sym (here_round (take i ms)))
    ∙ ap (λ rs. crosses labels (top rs) m.owner m.what) (sym same)
    ∙ ap (λ r. crosses labels r m.owner m.what) (sym c.here.ensures) ∙ sym c.crosses.ensures ∙ c.if-crosses.false in
    record {
      here = c.in_ok-pass.ensures ∙ ap (λ rs. passed rs i m.what) same ∙ sym (rounds_more ms i m c.loop-i-test.true c.index-marks-i.is);
      none = none_more (crosses_step ms) ms i m c.loop-i-test.true c.index-marks-i.is b c.loop-i.invariant.none;
    }

pub returns : goal.returns
returns c = λ k m s.
    c.loop-i.invariant.none k m (let lt : k < length c.args.marks.now = slice_get_within c.args.marks.now k m s in omega arith) s

pub returns-then-crosses : goal.returns-then-crosses
returns-then-crosses c =
    let m = c.index-marks-i.result in
    let i = c.loop-i.i in
    let ms = c.args.marks.now in
    let same = c.loop-i.invariant.here in
    let labels = stands c.in_ok-labels.labels.numbers c.in_ok-labels.labels.places in
    first_here condition.Step ms i m c.loop-i-test.true c.index-marks-i.is
    (ap (λ f. crosses f (round (take i ms)) m.owner m.what) (sym (labels_same ms c.in_ok-labels.labels c.in_ok-labels.ensures))
    ∙ ap (λ r. crosses labels r m.owner m.what) (sym (here_round (take i ms)))
    ∙ ap (λ rs. crosses labels (top rs) m.owner m.what) (sym same)
    ∙ ap (λ r. crosses labels r m.owner m.what) (sym c.here.ensures) ∙ sym c.crosses.ensures ∙ c.if-crosses.true)
    c.loop-i.invariant.none
