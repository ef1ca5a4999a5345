-- The variable with a cell, by where each begins.
use Rattle.std.proofs.Common.{◌≡◌, ℕ, zero, suc, ◌+◌, ◌-◌, ◌<◌, ◌≤◌, ◌^◌, ◌++◌, List, [], ◌∷◌, length, get_or, drop, slice_get, Some, None, inl, inr, refl, sym, ap, ◌∙◌, subst, arith, append_assoc}
use Rattle.std.proofs.lemmas.Bool.{lt-ltb, le-ltb}
use Rattle.std.proofs.lemmas.List.{drop_more}
use Rattle.std.proofs.lemmas.Option.{slice_get_past, slice_get_read}
use Rattle.pml_program.specs.declared.program.Slot.{Slot}
use Rattle.promela_run.specs.State.{size, slot_of, cell_of}
use Rattle.run_layout.specs.Numbers.{number_of}
use Rattle.run_layout.specs.Tables.{AreStarts}

-- one place more
pub started : (ss : List Slot) (i at : ℕ) (items xs : List ℕ) (s : Slot) → i < length ss → s ≡ get_or ss i s
    → ((ys : List ℕ) → AreStarts at (drop i ss) ys → AreStarts 0 ss (items ++ ys))
    → AreStarts (at + size s) (drop (i + 1) ss) xs → AreStarts 0 ss ((items ++ at ∷ []) ++ xs)
started ss i at items xs s h e k g =
    let d : drop i ss ≡ s ∷ drop (i + 1) ss = drop_more ss i s h ∙ ap (λ (x : Slot). x ∷ drop (i + 1) ss) (sym e) in
    subst (λ (l : List ℕ). AreStarts 0 ss l) (sym (append_assoc items (at ∷ []) xs))
    (k (at ∷ xs) (subst (λ (l : List Slot). AreStarts at l (at ∷ xs)) (sym d) (refl, g)))

-- each begins no earlier than the first
late : (at : ℕ) (ss : List Slot) (xs : List ℕ) (k : ℕ) → AreStarts at ss xs → k < length xs → at ≤ get_or xs k 0
late at ss [] k h l = absurd (omega (arith, l))
late at [] (x ∷ xs) k h l = absurd h
late at (s ∷ ss) (x ∷ xs) zero h l = omega (arith, h.0)
late at (s ∷ ss) (x ∷ xs) (suc k) h l = let r = late (at + size s) ss xs k h.1 (omega (arith, l)) in omega (arith, r)

-- what is found by the place that a cell lies behind
pub record Found (ss : List Slot) (at k begun cell : ℕ) : Type 0 where
  pub there : k < length ss
  pub inside : (d : Slot) → cell - begun < size (get_or ss k d) → (slot_of ss (cell - at) ≡ Some (get_or ss k d)) × (cell_of ss (cell - at) ≡ cell - begun)
  pub outside : (d : Slot) → size (get_or ss k d) ≤ cell - begun → (slot_of ss (cell - at) ≡ None) × (cell_of ss (cell - at) ≡ cell - begun - size (get_or ss k d))
  pub numbered : (d : Slot) → cell - begun < size (get_or ss k d) → number_of ss (cell - at) ≡ k
  pub passed : (d : Slot) → size (get_or ss k d) ≤ cell - begun → number_of ss (cell - at) ≡ length ss

pub find : (ss : List Slot) (xs : List ℕ) (at k cell : ℕ) → AreStarts at ss xs → k < length xs → get_or xs k 0 ≤ cell → (k + 1 < length xs → cell < get_or xs (k + 1) 0) → cell < 2 ^ 64 → Found ss at k (get_or xs k 0) cell
find ss [] at k cell h l b n w = absurd (omega (arith, l))
find [] (x ∷ xs) at k cell h l b n w = absurd h
find (s ∷ ss) (x ∷ xs) at zero cell h l b n w =
    let e : x ≡ at = h.0 in
    record {
      there = omega arith;
      inside = λ d i. let j : cell - at < size s = omega (arith, i, e) in rw (lt-ltb (cell - at) (size s) j) (refl, omega (arith, e));
      outside = λ d o. let j : size s ≤ cell - at = omega (arith, o, e) in
          let none : ss ≡ [] = over ss xs h.1 n j in
          rw (le-ltb (cell - at) (size s) j, none) (refl, omega (arith, e));
      numbered = λ d i. let j : cell - at < size s = omega (arith, i, e) in rw (lt-ltb (cell - at) (size s) j) refl;
      passed = λ d o. let j : size s ≤ cell - at = omega (arith, o, e) in
          let none : ss ≡ [] = over ss xs h.1 n j in
          rw (le-ltb (cell - at) (size s) j, none) refl;
    }
  where
    over : (ss : List Slot) (xs : List ℕ) → AreStarts (at + size s) ss xs → (1 < length (x ∷ xs) → cell < get_or (x ∷ xs) 1 0) → size s ≤ cell - at → ss ≡ []
    over ss [] (inl e) n j = e
    over ss [] (inr e) n j = absurd (let g : x ≡ at = h.0 in omega (arith, e, j, w, b, g))
    over [] (y ∷ ys) g n j = absurd g
    over (t ∷ ss) (y ∷ ys) g n j = absurd (let f : x ≡ at = h.0 in let m : 1 < length (x ∷ (y ∷ ys)) = omega arith in omega (arith, n m, g.0, j, b, f))
find (s ∷ ss) (x ∷ xs) at (suc k) cell h l b n w =
    let m : k < length xs = omega (arith, l) in
    let f = late (at + size s) ss xs k h.1 m in
    let z : suc k + 1 ≡ suc (k + 1) = omega arith in
    let after : k + 1 < length xs → cell < get_or xs (k + 1) 0 = λ i. subst (λ (j : ℕ). cell < get_or (x ∷ xs) j 0) z (n (omega (arith, i))) in
    let r = find ss xs (at + size s) k cell h.1 m b after w in
    let j : size s ≤ cell - at = omega (arith, f, b) in
    let y : cell - at - size s ≡ cell - (at + size s) = omega arith in
    record {
      there = omega (arith, r.there);
      inside = λ d i. rw (le-ltb (cell - at) (size s) j, y) (r.inside d i);
      outside = λ d o. rw (le-ltb (cell - at) (size s) j, y) (r.outside d o);
      numbered = λ d i. rw (le-ltb (cell - at) (size s) j, y) (ap suc (r.numbered d i));
      passed = λ d o. rw (le-ltb (cell - at) (size s) j, y) (ap suc (r.passed d o));
    }

-- no more places than variables
pub fewer : (at : ℕ) (ss : List Slot) (xs : List ℕ) → AreStarts at ss xs → length xs ≤ length ss
fewer at ss [] h = omega arith
fewer at [] (x ∷ xs) h = absurd h
fewer at (s ∷ ss) (x ∷ xs) h = let r = fewer (at + size s) ss xs h.1 in omega (arith, r)

-- the cell lies in the variable that begins last before it
pub inside : (us ss : List Slot) (xs ys : List ℕ) (k cell n : ℕ) (s : Slot) → us ≡ ss → ys ≡ xs → AreStarts 0 ss xs → k < length ys → get_or ys k 0 ≤ cell → (k + 1 < length ys → cell < get_or ys (k + 1) 0) → cell < 2 ^ 64
    → s ≡ get_or ss k s → n ≡ size (get_or ss k s) → cell - get_or ys k 0 < n → (slice_get us k ≡ slot_of us cell) × (cell - get_or ys k 0 ≡ cell_of us cell)
inside us ss xs ys k cell n s u e h l b p w g z i =
    let f = find ss ys 0 k cell (subst (AreStarts 0 ss) (sym e) h) l b p w in
    let r = f.inside s (omega (arith, i, z)) in
    let y : cell - 0 ≡ cell = omega arith in
    (ap (λ (vs : List Slot). slice_get vs k) u ∙ slice_get_read ss (length ss) k s refl f.there g ∙ ap Some g ∙ sym r.0 ∙ ap (slot_of ss) y ∙ sym (ap (λ (vs : List Slot). slot_of vs cell) u), sym r.1 ∙ ap (cell_of ss) y ∙ sym (ap (λ (vs : List Slot). cell_of vs cell) u))

-- the cell lies behind them all
pub outside : (us ss : List Slot) (xs ys : List ℕ) (k cell n : ℕ) (s : Slot) → us ≡ ss → ys ≡ xs → AreStarts 0 ss xs → k < length ys → get_or ys k 0 ≤ cell → (k + 1 < length ys → cell < get_or ys (k + 1) 0) → cell < 2 ^ 64
    → n ≡ size (get_or ss k s) → n ≤ cell - get_or ys k 0 → (slice_get us (length ss) ≡ slot_of us cell) × (cell - get_or ys k 0 - n ≡ cell_of us cell)
outside us ss xs ys k cell n s u e h l b p w z i =
    let f = find ss ys 0 k cell (subst (AreStarts 0 ss) (sym e) h) l b p w in
    let r = f.outside s (omega (arith, i, z)) in
    let y : cell - 0 ≡ cell = omega arith in
    (ap (λ (vs : List Slot). slice_get vs (length ss)) u ∙ slice_get_past ss (length ss) (omega arith) ∙ sym r.0 ∙ ap (slot_of ss) y ∙ sym (ap (λ (vs : List Slot). slot_of vs cell) u), ap (λ (m : ℕ). cell - get_or ys k 0 - m) z ∙ sym r.1 ∙ ap (cell_of ss) y ∙ sym (ap (λ (vs : List Slot). cell_of vs cell) u))

-- the number of the variable that the cell lies in, or of all
pub number : (us ss : List Slot) (xs ys : List ℕ) (k cell n : ℕ) (s : Slot) → us ≡ ss → ys ≡ xs → AreStarts 0 ss xs → k < length ys → get_or ys k 0 ≤ cell → (k + 1 < length ys → cell < get_or ys (k + 1) 0) → cell < 2 ^ 64
    → n ≡ size (get_or ss k s) → cell - get_or ys k 0 < n → k ≡ number_of us cell
number us ss xs ys k cell n s u e h l b p w z i =
    let f = find ss ys 0 k cell (subst (AreStarts 0 ss) (sym e) h) l b p w in
    let y : cell - 0 ≡ cell = omega arith in
    sym (f.numbered s (omega (arith, i, z))) ∙ ap (number_of ss) y ∙ sym (ap (λ (vs : List Slot). number_of vs cell) u)

pub count : (us ss : List Slot) (xs ys : List ℕ) (k cell n : ℕ) (s : Slot) → us ≡ ss → ys ≡ xs → AreStarts 0 ss xs → k < length ys → get_or ys k 0 ≤ cell → (k + 1 < length ys → cell < get_or ys (k + 1) 0) → cell < 2 ^ 64
    → n ≡ size (get_or ss k s) → n ≤ cell - get_or ys k 0 → length ss ≡ number_of us cell
count us ss xs ys k cell n s u e h l b p w z i =
    let f = find ss ys 0 k cell (subst (AreStarts 0 ss) (sym e) h) l b p w in
    let y : cell - 0 ≡ cell = omega arith in
    sym (f.passed s (omega (arith, i, z))) ∙ ap (number_of ss) y ∙ sym (ap (λ (vs : List Slot). number_of vs cell) u)
