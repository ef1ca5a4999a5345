use Rattle.std.proofs.Common.{◌∙◌, sym, ap}
use Rattle.std.specs.Option.{option_or}
use Rattle.check_conditions.specs.Step.{step_there}
use Rattle.check_conditions.specs.Open.{passed, top}
use Rattle.check_conditions.proofs.Open.{rounds_more, labelled_more}
use Rattle.check_conditions.proofs.labels.label_steps.Goals as goal

pub loop-i-preserved : goal.loop-i-preserved
loop-i-preserved c =
    let m = c.index-marks-i.result in
    let i = c.loop-i.i in
    let ms = c.args.marks.now in
    let same = c.loop-i.invariant.here in
    record {
      here = c.in_ok-pass.ensures ∙ ap (λ rs. passed rs i m.what) same ∙ sym (rounds_more ms i m c.loop-i-test.true c.index-marks-i.is);
      labels = record {
        kept = c.add_step.ensures.kept;
        same = λ o n.
            c.in_ok-add_step.ensures.added o n
            ∙ ap (λ x. option_or x (step_there o n m.owner m.what c.here.result.step)) (c.loop-i.invariant.labels.same o n)
            ∙ labelled_more ms i m c.here.result c.loop-i-test.true c.index-marks-i.is (c.here.ensures ∙ ap top same) o n;
      };
    }
