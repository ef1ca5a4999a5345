-- The last that gives anything, met from the end.
use Rattle.std.proofs.Common.{zero, suc, ◌++◌, ◌<◌, length, length-append, append-nil, ◌≡◌, ℕ, ◌+◌, List, [], ◌∷◌, drop, refl, sym, ap, ◌∙◌, arith}
use Rattle.std.specs.Prelude.{slice_index_or}
use Rattle.run_state.proofs.Finding.{opens}
use Rattle.promela_run.specs.Moves.{or_else, last}

pub or_else_none : {A : Type 0} → (xs ys : List A) → xs ≡ [] → or_else xs ys ≡ ys
or_else_none [] ys h = refl
or_else_none (x ∷ xs) ys h = cc

pub or_else_some : {A : Type 0} → (xs ys : List A) → (xs ≡ [] → ⊥) → or_else xs ys ≡ xs
or_else_some [] ys h = absurd (h refl)
or_else_some (x ∷ xs) ys h = refl

-- of a list that has grown, what was added is not empty, and of one that has not it is
pub grown : {A : Type 0} (a b x : List A) (n k : ℕ) → b ≡ a ++ x → n ≡ length a → k ≡ length b → (k ≡ n → ⊥) → x ≡ [] → ⊥
grown a b x n k e p q h z = h (q ∙ (ap length e ∙ (ap (λ y. length (a ++ y)) z ∙ (ap length (append-nil a) ∙ sym p))))

pub not_grown : {A : Type 0} (a b x : List A) (n k : ℕ) → b ≡ a ++ x → n ≡ length a → k ≡ length b → k ≡ n → x ≡ []
not_grown a b [] n k e p q h = refl
not_grown a b (y ∷ x) n k e p q h =
    let l : length b ≡ length a + length (y ∷ x) = ap length e ∙ length-append a (y ∷ x) in
    absurd (let z : length (y ∷ x) ≡ 0 = omega (arith, l, p, q, h) in omega (arith, z))

-- ---- level by level, from the last down

module _ {A B : Type 0} (f : ℕ → A → List B) (d : A) where
  found : (i l : ℕ) (xs : List A) → l < length xs → last f (i + (l + 1)) (drop (l + 1) xs) ≡ [] → (f (i + l) (slice_index_or xs l d) ≡ [] → ⊥) → last f i xs ≡ f (i + l) (slice_index_or xs l d)
  found i l [] e h k = absurd (omega (arith, e))
  found i zero (y ∷ ys) e h k =
      let n : i + 0 ≡ i = omega arith in
      or_else_none (last f (i + 1) ys) (f i y) h ∙ ap (λ (j : ℕ). f j y) (sym n)
  found i (suc l) (y ∷ ys) e h k =
      let n : i + 1 + l ≡ i + suc l = omega arith in
      let c : suc l + 1 ≡ suc (l + 1) = omega arith in
      let m : i + 1 + (l + 1) ≡ i + suc (l + 1) = omega arith in
      let s : l < length ys = omega (arith, e) in
      let x : A = slice_index_or ys l d in
      let rest : last f (i + 1) ys ≡ f (i + 1 + l) x = found (i + 1) l ys s (ap (λ (j : ℕ). last f j (drop (l + 1) ys)) m ∙ (ap (λ (n : ℕ). last f (i + n) (drop n (y ∷ ys))) (sym c) ∙ h)) (λ z. k (ap (λ (j : ℕ). f j x) (sym n) ∙ z)) in
      or_else_some (last f (i + 1) ys) (f i y) (λ z. k (ap (λ (j : ℕ). f j x) (sym n) ∙ (sym rest ∙ z))) ∙ (rest ∙ ap (λ (j : ℕ). f j x) n)

  still_none : (l : ℕ) (xs : List A) → l < length xs → last f (l + 1) (drop (l + 1) xs) ≡ [] → f l (slice_index_or xs l d) ≡ [] → last f l (drop l xs) ≡ []
  still_none l xs e h k =
      ap (λ (ys : List A). last f l ys) (opens xs l d e)
      ∙ (or_else_none (last f (l + 1) (drop (l + 1) xs)) (f l (slice_index_or xs l d)) h ∙ k)

  -- what the first level that gives anything gives is what the last of all gives
  pub ends : (a b : List B) (n m k : ℕ) (x : A) (xs : List A) → k < length xs → x ≡ slice_index_or xs k d → last f (k + 1) (drop (k + 1) xs) ≡ [] → b ≡ a ++ f k x → n ≡ length a → m ≡ length b → (m ≡ n → ⊥) → b ≡ a ++ last f 0 xs
  ends a b n m k x xs l e h g p q u =
      let o : 0 + (k + 1) ≡ k + 1 = omega arith in
      let z : 0 + k ≡ k = omega arith in
      let c : f (0 + k) (slice_index_or xs k d) ≡ f k x = ap (λ (j : ℕ). f j (slice_index_or xs k d)) z ∙ ap (f k) (sym e) in
      let r : last f 0 xs ≡ f (0 + k) (slice_index_or xs k d) = found 0 k xs l (ap (λ (j : ℕ). last f j (drop (k + 1) xs)) o ∙ h) (λ w. grown a b (f k x) n m g p q u (sym c ∙ w)) in
      g ∙ ap (λ (w : List B). a ++ w) (sym (r ∙ c))

  -- a level that gives nothing changes nothing
  pub goes_on : (a b : List B) (n m k : ℕ) (x : A) (xs : List A) → k < length xs → x ≡ slice_index_or xs k d → last f (k + 1) (drop (k + 1) xs) ≡ [] → b ≡ a ++ f k x → n ≡ length a → m ≡ length b → m ≡ n → (b ≡ a) × (last f k (drop k xs) ≡ [])
  goes_on a b n m k x xs l e h g p q u =
      let z : f k x ≡ [] = not_grown a b (f k x) n m g p q u in
      (g ∙ (ap (λ (w : List B). a ++ w) z ∙ append-nil a), still_none k xs l h (ap (f k) (sym e) ∙ z))
