use Rattle.std.proofs.Common.{◌∙◌, ◌||◌, Bool, ap, sym}
use Rattle.std.specs.Option.{is_some}
use Rattle.promela_model.specs.Decided.{is_label}
use Rattle.check_conditions.proofs.Surrounding.{label-more}
use Rattle.check_conditions.proofs.labels.all_labels.Goals as goal

pub loop-mark-init : goal.loop-mark-init
loop-mark-init c = record { kept = c.new-labels.ensures.kept; same = λ o n. ap is_some (c.new-labels.ensures.empty o n) }

pub loop-mark-preserved : goal.loop-mark-preserved
loop-mark-preserved c =
    let m = c.mark-item.result in
    record {
      kept = c.add_label.ensures.kept;
      same = λ o n.
          c.in_ok-add_label.ensures.added o n
          ∙ ap (λ (b : Bool). is_label o n m.owner m.what || b) (c.loop-mark.invariant.same o n)
          ∙ sym (label-more c.args.marks.now c.loop-mark.mark-index m c.loop-mark-test.true c.mark-item.is o n);
    }
