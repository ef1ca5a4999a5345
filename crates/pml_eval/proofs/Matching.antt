-- Lists of different lengths do not match.
use Rattle.std.proofs.Common.{◌≡◌, suc, Bool, true, false, ◌&&◌, List, [], ◌∷◌, length, ℤ, refl, ap, ◌∙◌}
use Rattle.promela_process.specs.declared.sought.Sought.{Sought}
use Rattle.promela_process.specs.Expressions.{matched, matches_field}

and_false : (b : Bool) → (b && false) ≡ false
and_false true = refl
and_false false = refl

pub matched-length : (ws : List Sought) (xs : List ℤ) → (length ws ≡ length xs → ⊥) → matched ws xs ≡ false
matched-length [] [] h = absurd (h refl)
matched-length [] (x ∷ xs) h = refl
matched-length (w ∷ ws) [] h = refl
matched-length (w ∷ ws) (x ∷ xs) h = ap (λ b. matches_field w x && b) (matched-length ws xs (λ e. h (ap suc e))) ∙ and_false (matches_field w x)
