use Rattle.std.proofs.Common.{◌∙◌, ap, cond, Some}
use Rattle.promela_process.specs.Control.{is_label_among}
use Rattle.pml_control.specs.Labels.{found}
use Rattle.pml_control.proofs.Naming.{numbered-more}
use Rattle.pml_control.proofs.labels.of_posts.Goals as goal

pub loop-number-preserved : goal.loop-number-preserved
loop-number-preserved c l =
    c.in_ok-set_all.ensures l
    ∙ ap (λ ws. cond (is_label_among l ws) (Some c.loop-number.number) (found c.loop-number.labels l)) c.labels.ensures
    ∙ numbered-more l c.args.posts.now c.loop-number.number c.index-posts-number.result (found c.loop-number.labels l) c.loop-number-test.true c.index-posts-number.is (c.loop-number.invariant l)
