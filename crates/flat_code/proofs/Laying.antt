-- A place among all cells, and what stands there.
use Rattle.std.proofs.Common.{◌≡◌, ℕ, zero, suc, ◌+◌, ◌<◌, List, [], ◌∷◌, ◌++◌, length, get_or, take, map, sum, ℤ, pos, refl, sym, ap, ◌∙◌, arith, length-append}
use Rattle.std.proofs.lemmas.List.Sums.{sum_by-cons}
use Rattle.promela_process.specs.declared.place.Place.{Place}
use Rattle.promela_process.specs.Store.{Frame, number_at}
use Rattle.pml_store.specs.Writing.{HasPlace, flat, joined, index_of}

-- how many cells stand before a variable
pub flat_length : (f : Frame) (v : ℕ) → length (flat (take v f)) ≡ sum (take v (map length f))
flat_length [] zero = refl
flat_length [] (suc v) = refl
flat_length (c ∷ f) zero = refl
flat_length (c ∷ f) (suc v) =
    length-append c (flat (take v f)) ∙ ap (λ (n : ℕ). length c + n) (flat_length f v)
    ∙ sym (sum_by-cons (λ n. n) (length c) (take v (map length f)))

front : (xs ys : List ℤ) (i : ℕ) → i < length xs → get_or (xs ++ ys) i (pos 0) ≡ get_or xs i (pos 0)
front [] ys i h = absurd (omega (arith, h))
front (x ∷ xs) ys zero h = refl
front (x ∷ xs) ys (suc i) h = front xs ys i (omega (arith, h))

behind : (xs ys : List ℤ) (i j : ℕ) → j ≡ length xs + i → get_or (xs ++ ys) j (pos 0) ≡ get_or ys i (pos 0)
behind [] ys i j e = ap (λ (n : ℕ). get_or ys n (pos 0)) (omega (arith, e))
behind (x ∷ xs) ys i zero e = absurd (omega (arith, e))
behind (x ∷ xs) ys i (suc j) e = behind xs ys i j (omega (arith, e))

-- a number stands there among these
record Stands (xs : List ℤ) (i : ℕ) (n : ℤ) : Type 0 where
  within : i < length xs
  holds : get_or xs i (pos 0) ≡ n

here : (xs ys : List ℤ) (i j : ℕ) (n : ℤ) → j ≡ i → Stands xs i n → Stands (xs ++ ys) j n
here xs ys i j n e h =
    let a = length-append xs ys in
    record { within = omega (arith, a, e, h.within); holds = ap (λ (k : ℕ). get_or (xs ++ ys) k (pos 0)) e ∙ front xs ys i h.within ∙ h.holds }

there : (xs ys : List ℤ) (i j : ℕ) (n : ℤ) → j ≡ length xs + i → Stands ys i n → Stands (xs ++ ys) j n
there xs ys i j n e h =
    let a = length-append xs ys in
    record { within = omega (arith, a, e, h.within); holds = behind xs ys i j e ∙ h.holds }

flat_holds : (f : Frame) (v c : ℕ) → c < length (get_or f v []) → Stands (flat f) (length (flat (take v f)) + c) (get_or (get_or f v []) c (pos 0))
flat_holds [] v c h = absurd (omega (arith, h))
flat_holds (x ∷ f) zero c h = here x (flat f) c _ _ (omega arith) (record { within = h; holds = refl })
flat_holds (x ∷ f) (suc v) c h =
    let a = length-append x (flat (take v f)) in
    there x (flat f) (length (flat (take v f)) + c) _ _ (omega (arith, a)) (flat_holds f v c h)

joined_holds : (fs : List Frame) (o v c : ℕ) → c < length (get_or (get_or fs o []) v [])
    → Stands (joined fs) (length (joined (take o fs)) + (length (flat (take v (get_or fs o []))) + c)) (get_or (get_or (get_or fs o []) v []) c (pos 0))
joined_holds [] o v c h = absurd (omega (arith, h))
joined_holds (f ∷ fs) zero v c h = here (flat f) (joined fs) (length (flat (take v f)) + c) _ _ (omega arith) (flat_holds f v c h)
joined_holds (f ∷ fs) (suc o) v c h =
    let a = length-append (flat f) (joined (take o fs)) in
    there (flat f) (joined fs) _ _ _ (omega (arith, a)) (joined_holds fs o v c h)

-- the index of a place that is there is that of a cell
pub index-within : (fs : List Frame) (p : Place) → HasPlace fs p → index_of fs p < length (joined fs)
index-within fs p h = (joined_holds fs p.frame p.variable p.cell h.cell).within

-- and it holds what stands at the place
pub index-holds : (fs : List Frame) (p : Place) → HasPlace fs p → get_or (joined fs) (index_of fs p) (pos 0) ≡ number_at fs p
index-holds fs p h = (joined_holds fs p.frame p.variable p.cell h.cell).holds
