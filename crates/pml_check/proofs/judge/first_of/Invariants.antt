use Rattle.std.proofs.Common.{Option, drop}
use Rattle.diagnostics.specs.declared.refusal.Refusal.{Refusal}
use Rattle.pml_tree.specs.declared.tree.Tree.{Tree}
use Rattle.promela_model.specs.Marks.{of_tree}
use Rattle.check_resolve.specs.Model.{numbered_model}
use Rattle.pml_check.specs.Decided.{Finds}
use Rattle.pml_check.specs.Subject.{IsSubject}
use Rattle.pml_check.proofs.judge.first_of.Given as goal

-- what the rest has first is what all have first
abbrev pub invariant-loop-refusal : goal.invariant-loop-refusal
invariant-loop-refusal l =
    (t : Tree) → IsSubject t l.subject → (o : Option Refusal) → Finds (drop l.refusal-index l.refusals) (of_tree t) (numbered_model t) o
    → Finds l.refusals (of_tree t) (numbered_model t) o
