-- Where variables begin.
use Rattle.std.proofs.Common.{◌≡◌, ℕ, zero, suc, ◌+◌, ◌<◌, ◌++◌, List, [], ◌∷◌, length, get_or, drop, take, map, sum, slice_get, Some, None, refl, sym, ap, ◌∙◌, subst, arith, append_assoc, add_assoc}
use Rattle.std.proofs.lemmas.List.{drop_more}
use Rattle.std.proofs.lemmas.List.Sums.{sum_by-cons}
use Rattle.pml_program.specs.declared.program.Slot.{Slot}
use Rattle.promela_run.specs.State.{size}
use Rattle.run_layout.specs.Tables.{AreStarts}

-- one place more
pub started : (ss : List Slot) (i at : ℕ) (items xs : List ℕ) (s : Slot) → i < length ss → s ≡ get_or ss i s
    → ((ys : List ℕ) → AreStarts at (drop i ss) ys → AreStarts 0 ss (items ++ ys))
    → AreStarts (at + size s) (drop (i + 1) ss) xs → AreStarts 0 ss ((items ++ at ∷ []) ++ xs)
started ss i at items xs s h e k g =
    let d : drop i ss ≡ s ∷ drop (i + 1) ss = drop_more ss i s h ∙ ap (λ (x : Slot). x ∷ drop (i + 1) ss) (sym e) in
    subst (λ (l : List ℕ). AreStarts 0 ss l) (sym (append_assoc items (at ∷ []) xs))
    (k (at ∷ xs) (subst (λ (l : List Slot). AreStarts at l (at ∷ xs)) (sym d) (refl, g)))

-- each begins behind those before it
pub starts_at : (at : ℕ) (ss : List Slot) (xs : List ℕ) (v d : ℕ) → AreStarts at ss xs → v < length xs → get_or xs v d ≡ at + sum (take v (map size ss))
starts_at at ss [] v d h l = absurd (omega (arith, l))
starts_at at [] (x ∷ xs) v d h l = absurd h
starts_at at (s ∷ ss) (x ∷ xs) zero d h l = omega (arith, h.0)
starts_at at (s ∷ ss) (x ∷ xs) (suc v) d h l = starts_at (at + size s) ss xs v d h.1 (omega (arith, l))
    ∙ add_assoc at (size s) (sum (take v (map size ss))) ∙ ap (λ (n : ℕ). at + n) (sym (sum_by-cons (λ n. n) (size s) (take v (map size ss))))

-- a variable that is not there has no cells
pub no_cells : (ss : List Slot) (v : ℕ) → slice_get ss v ≡ None → 0 ≡ get_or (map size ss) v 0
no_cells [] v h = refl
no_cells (s ∷ ss) zero h = cc
no_cells (s ∷ ss) (suc v) h = no_cells ss v h

pub some_cells : (ss : List Slot) (v : ℕ) (s : Slot) → slice_get ss v ≡ Some s → size s ≡ get_or (map size ss) v 0
some_cells [] v s h = cc
some_cells (s ∷ ss) zero t h = cc
some_cells (s ∷ ss) (suc v) t h = some_cells ss v t h
