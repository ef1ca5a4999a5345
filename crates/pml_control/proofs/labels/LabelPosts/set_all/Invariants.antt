use Rattle.std.proofs.Common.{◌≡◌, ℕ, List, Some, cond, take}
use Rattle.promela_process.specs.Control.{is_label_among}
use Rattle.pml_control.specs.Labels.{found}
use Rattle.pml_control.proofs.labels.LabelPosts.set_all.Given as goal

abbrev pub invariant-loop-label : goal.invariant-loop-label
invariant-loop-label l =
    (n : List ℕ) → found l.self n ≡ cond (is_label_among n (take l.label-index l.labels)) (Some l.post) (found l.fn.self n)
