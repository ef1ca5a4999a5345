use Rattle.std.proofs.Common.{◌≡◌, ◌<◌, ◌∙◌, sym, ap, arith, length, false, take}
use Rattle.std.proofs.lemmas.Option.{slice_get_within}
use Rattle.promela_model.specs.Decided.{loose}
use Rattle.check_conditions.specs.Step.{breaks_loose}
use Rattle.check_conditions.specs.Open.{passed, top}
use Rattle.check_conditions.proofs.Looking.{here, none_more}
use Rattle.check_conditions.proofs.Open.{rounds_more, here_round}
use Rattle.check_conditions.proofs.structure.breaks_loose.Goals as goal

pub loop-i-preserved : goal.loop-i-preserved
loop-i-preserved c =
    let m = c.index-marks-i.result in
    let i = c.loop-i.i in
    let ms = c.args.marks.now in
    let same = c.loop-i.invariant.here in
    let b : breaks_loose (take i ms) m ≡ false =
    ap (λ r. loose r m.what) (sym (here_round (take i ms))) ∙ ap (λ rs. loose (top rs) m.what) (sym same) ∙ ap (λ r. loose r m.what) (sym c.here.ensures) ∙ sym c.loose.ensures ∙ c.if-loose.false in
    record {
      here = c.in_ok-pass.ensures ∙ ap (λ rs. passed rs i m.what) same ∙ sym (rounds_more ms i m c.loop-i-test.true c.index-marks-i.is);
      none = none_more breaks_loose ms i m c.loop-i-test.true c.index-marks-i.is b c.loop-i.invariant.none;
    }

pub returns : goal.returns
returns c = λ k m s.
    c.loop-i.invariant.none k m (let lt : k < length c.args.marks.now = slice_get_within c.args.marks.now k m s in omega arith) s

pub returns-then-loose : goal.returns-then-loose
returns-then-loose c =
    let m = c.index-marks-i.result in
    let i = c.loop-i.i in
    let ms = c.args.marks.now in
    here breaks_loose ms i m c.loop-i-test.true c.index-marks-i.is
    (ap (λ r. loose r m.what) (sym (here_round (take i ms))) ∙ ap (λ rs. loose (top rs) m.what) (sym c.loop-i.invariant.here) ∙ ap (λ r. loose r m.what) (sym c.here.ensures) ∙ sym c.loose.ensures ∙ c.if-loose.true)
