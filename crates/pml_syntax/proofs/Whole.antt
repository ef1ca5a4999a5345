-- All of the tokens: what was read is the only tree, and where nothing was read there is none.
use Rattle.std.proofs.Common.{◌≡◌, ℕ, ◌≤◌, List, length, Ok, Err, sym, ap, ◌∙◌, arith}
use Rattle.pml_token.specs.Word.{Word}
use Rattle.pml_tree.specs.declared.tree.Tree.{Tree}
use Rattle.promela_grammar.specs.Models.{Spells}
use Rattle.pml_syntax.specs.ReadingUnits as reading
use Rattle.pml_expression.proofs.Steps.{ok_is}
use Rattle.pml_syntax.proofs.FoundUnits.{model_found}
use Rattle.pml_syntax.proofs.AgainUnits.{model_again}

pub is_found : (depth : ℕ) (ts from : List Word) (x : Tree) (to : List Word) → from ≡ ts → reading.model depth from ≡ Ok (x, to) → Spells x ts
is_found depth ts from x to same h = model_found depth ts (x, to) (ap (reading.model depth) (sym same) ∙ h)

pub is_only : (depth : ℕ) (ts from : List Word) (x : Tree) (to : List Word) → from ≡ ts → reading.model depth from ≡ Ok (x, to) → length ts ≤ depth → (t : Tree) → Spells t ts → x ≡ t
is_only depth ts from x to same h deep t s = ap (λ (r : Tree × List Word). r.0) (ok_is (sym h ∙ ap (reading.model depth) same ∙ model_again s depth deep))

pub is_none : (depth : ℕ) (ts from : List Word) (left : ℕ) → from ≡ ts → reading.model depth from ≡ Err left → length ts ≤ depth → (t : Tree) → Spells t ts → ⊥
is_none depth ts from left same h deep t s = let e = sym h ∙ ap (reading.model depth) same ∙ model_again s depth deep in cc

pub one_tree : (s t : Tree) (ts : List Word) → Spells s ts → Spells t ts → s ≡ t
one_tree s t ts p q = ap (λ (r : Tree × List Word). r.0) (ok_is (sym (model_again p (length ts) (omega arith)) ∙ model_again q (length ts) (omega arith)))
