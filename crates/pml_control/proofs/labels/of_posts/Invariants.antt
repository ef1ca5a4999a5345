use Rattle.std.proofs.Common.{◌≡◌, ℕ, List, take}
use Rattle.pml_control.specs.Graph.{numbered}
use Rattle.pml_control.specs.Labels.{found}
use Rattle.pml_control.proofs.labels.of_posts.Given as goal

abbrev pub invariant-loop-number : goal.invariant-loop-number
invariant-loop-number l = (n : List ℕ) → found l.labels n ≡ numbered n 0 (take l.number l.posts)
