-- What is found of the model that a tree stands for.
use Rattle.std.proofs.Common.{◌≡◌, List, Option, None, subst}
use Rattle.diagnostics.specs.declared.refusal.Refusal.{Refusal}
use Rattle.pml_tree.specs.declared.tree.Tree.{Tree}
use Rattle.promela_model.specs.declared.mark.Mark.{Mark}
use Rattle.promela_model.specs.Marks.{of_tree}
use Rattle.pml_program.specs.declared.program.Program.{Program}
use Rattle.check_resolve.specs.Model.{numbered_model}
use Rattle.pml_check.specs.Fitted.{FitsTo, EachBody}
use Rattle.promela_process.specs.Control.{SettlesEverywhere}
use Rattle.pml_check.specs.Decided.{all_judged, Finds}

-- found is what an answer says
pub found_of : (xs : List Refusal) (t : Tree) (o p : Option Refusal) → o ≡ p → Finds xs (of_tree t) (numbered_model t) o → Finds xs (of_tree t) (numbered_model t) p
found_of xs t o p e f = subst (λ (q : Option Refusal). Finds xs (of_tree t) (numbered_model t) q) e f

-- where nothing applies, settling ends everywhere
pub settles_of : (ms : List Mark) (p : Program) → Finds all_judged ms p None → EachBody SettlesEverywhere p.proctypes
unfolding FitsTo
settles_of ms p h = h.1.1.1.1.1.1.1.0.1
