-- The first state is judged behind all other conditions.
use Rattle.std.proofs.Common.{◌≢◌, List, [], ◌∷◌, ◌++◌, inl, inr, refl}
use Rattle.std.specs.List.{AllByRecursion}
use Rattle.diagnostics.specs.declared.refusal.Refusal.{Refusal}
use Rattle.diagnostics.specs.declared.refusal.Refusal.TheVariants as r
use Rattle.promela_model.specs.declared.mark.Mark.{Mark}
use Rattle.pml_program.specs.declared.program.Program.{Program}
use Rattle.promela_refusals.specs.Judged.{AppliesTo}
use Rattle.pml_check.specs.Fitted.{HasBadStart, HasGoodStart, FitsTo}
use Rattle.pml_check.specs.Decided.{all_judged, judged_before_start, FitsAll, IsFirst}

module _ (ms : List Mark) (p : Program) where
  first_more : (xs ys : List Refusal) (x : Refusal) → IsFirst xs ms p x → IsFirst (xs ++ ys) ms p x
  first_more [] ys x h = absurd h
  first_more (y ∷ xs) ys x (inl h) = inl h
  first_more (y ∷ xs) ys x (inr h) = inr (h.0, first_more xs ys x h.1)

  first_last : (xs : List Refusal) (x : Refusal) → FitsAll xs ms p → AppliesTo x ms p → IsFirst (xs ++ x ∷ []) ms p x
  first_last [] x f a = inl (refl, a)
  first_last (y ∷ xs) x f a = inr (f.0, first_last xs x f.1 a)

  fits_last : (xs : List Refusal) (x : Refusal) → FitsAll xs ms p → FitsTo x ms p → FitsAll (xs ++ x ∷ []) ms p
  fits_last [] x f g = (g, tt)
  fits_last (y ∷ xs) x f g = (f.0, fits_last xs x f.1 g)

  -- the first of those before it is the first of all
  pub first_before : (x : Refusal) → IsFirst judged_before_start ms p x → IsFirst all_judged ms p x
  first_before x h = first_more judged_before_start (r.Initialiser ∷ []) x h

  pub first_start : FitsAll judged_before_start ms p → HasBadStart p → IsFirst all_judged ms p r.Initialiser
  unfolding AppliesTo
  first_start f h = first_last judged_before_start r.Initialiser f (inr h)

  pub fits_start : FitsAll judged_before_start ms p → HasGoodStart p → FitsAll all_judged ms p
  unfolding FitsTo
  fits_start f h = fits_last judged_before_start r.Initialiser f (tt, h)

  pub fits_cells : FitsAll judged_before_start ms p → FitsTo r.TooManyCells ms p
  fits_cells f = f.1.1.1.1.1.1.1.1.1.0

-- none of them is that of the first state
pub none_start : AllByRecursion (λ (x : Refusal). x ≢ r.Initialiser) judged_before_start
none_start = (λ e. cc, (λ e. cc, (λ e. cc, (λ e. cc, (λ e. cc, (λ e. cc, (λ e. cc, (λ e. cc, (λ e. cc, (λ e. cc, (λ e. cc, (λ e. cc, tt))))))))))))

-- a tree that fits all has a first state
pub fit_start : (ms : List Mark) (p : Program) → FitsAll all_judged ms p → HasGoodStart p
unfolding FitsTo
fit_start ms p f = f.1.1.1.1.1.1.1.1.1.1.1.1.0.1
