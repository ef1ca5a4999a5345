-- What applies to a tree, or what it fits, by its numbered model.
use Rattle.std.proofs.Common.{◌≡◌, ◌⊎◌, inl, inr, sym, subst}
use Rattle.diagnostics.specs.declared.refusal.Refusal.{Refusal}
use Rattle.pml_tree.specs.declared.tree.Tree.{Tree}
use Rattle.promela_model.specs.Marks.{of_tree}
use Rattle.pml_program.specs.declared.program.Program.{Program}
use Rattle.check_resolve.specs.Model.{numbered_model}
use Rattle.promela_model.specs.StandsModel.{StandsModel}
use Rattle.meaning_laws.proofs.Model.{model-stands, one-model}
use Rattle.promela_refusals.specs.Judged.{AppliesTo, Applies}
use Rattle.pml_check.specs.Fitted.{FitsTo, Fits}
use Rattle.pml_check.proofs.Exclusive.{apart}

pub is_numbered : (t : Tree) (p : Program) → StandsModel t p → p ≡ numbered_model t
is_numbered t p h = one-model t p (numbered_model t) h (model-stands t)

pub stands_by : (t : Tree) (p : Program) → p ≡ numbered_model t → StandsModel t p
stands_by t p e = subst (λ (q : Program). StandsModel t q) (sym e) (model-stands t)

pub applies_by : (t : Tree) (x : Refusal) → AppliesTo x (of_tree t) (numbered_model t) → Applies t x
applies_by t x h = record { model = numbered_model t; stands = model-stands t; applies = h }

pub fits_by : (t : Tree) (x : Refusal) → FitsTo x (of_tree t) (numbered_model t) → Fits t x
fits_by t x h = record { model = numbered_model t; stands = model-stands t; fits = h }

pub applied : (t : Tree) (x : Refusal) → Applies t x → AppliesTo x (of_tree t) (numbered_model t)
applied t x h = subst (λ (p : Program). AppliesTo x (of_tree t) p) (is_numbered t h.model h.stands) h.applies

pub fitted : (t : Tree) (x : Refusal) → Fits t x → FitsTo x (of_tree t) (numbered_model t)
fitted t x h = subst (λ (p : Program). FitsTo x (of_tree t) p) (is_numbered t h.model h.stands) h.fits

pub not_both : (t : Tree) (x : Refusal) → Applies t x → Fits t x → ⊥
not_both t x a f = apart x (of_tree t) (numbered_model t) (applied t x a) (fitted t x f)

pub one_of : (t : Tree) (x : Refusal) → AppliesTo x (of_tree t) (numbered_model t) ⊎ FitsTo x (of_tree t) (numbered_model t) → Applies t x ⊎ Fits t x
one_of t x (inl a) = inl (applies_by t x a)
one_of t x (inr f) = inr (fits_by t x f)
