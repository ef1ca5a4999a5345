-- What a list has at a place.
use Rattle.std.proofs.Common.{zero, suc, get_or, ◌<◌, ◌≤◌, length, ◌≡◌, ℕ, ◌+◌, List, [], ◌∷◌, drop, map, refl, sym, ap, ◌∙◌, arith, Some, None}
use Rattle.std.specs.Prelude.{slice_get, slice_index_or}

-- what is left from a place on begins with what is there
pub opens : {A : Type 0} (xs : List A) (k : ℕ) (d : A) → k < length xs → drop k xs ≡ slice_index_or xs k d ∷ drop (k + 1) xs
opens [] k d h = absurd (omega (arith, h))
opens (y ∷ ys) zero d h = refl
opens (y ∷ ys) (suc k) d h =
    let e : suc k + 1 ≡ suc (k + 1) = omega arith in
    let l : k < length ys = omega (arith, h) in
    opens ys k d l ∙ ap (λ (n : ℕ). slice_index_or ys k d ∷ drop n (y ∷ ys)) (sym e)

pub index_map : {A B : Type 0} (g : A → B) (xs : List A) (k : ℕ) (d : A) (e : B) → k < length xs → slice_index_or (map g xs) k e ≡ g (slice_index_or xs k d)
index_map g [] k d e h = absurd (omega (arith, h))
index_map g (x ∷ xs) zero d e h = refl
index_map g (x ∷ xs) (suc k) d e h = let l : k < length xs = omega (arith, h) in index_map g xs k d e l

-- a place past the end has the default
pub index_total : {A B : Type 0} (g : A → B) (xs : List A) (k : ℕ) (d : A) → slice_index_or (map g xs) k (g d) ≡ g (slice_index_or xs k d)
index_total g [] k d = refl
index_total g (x ∷ xs) zero d = refl
index_total g (x ∷ xs) (suc k) d = index_total g xs k d

pub got : {A : Type 0} (xs : List A) (k : ℕ) (x d : A) → slice_get xs k ≡ Some x → slice_index_or xs k d ≡ x
got [] k x d h = cc
got (y ∷ ys) zero x d h = cc
got (y ∷ ys) (suc k) x d h = got ys k x d h

pub got_none : {A : Type 0} (xs : List A) (k : ℕ) (d : A) → length xs ≤ k → slice_index_or xs k d ≡ d
got_none [] k d h = refl
got_none (y ∷ ys) zero d h = absurd (omega (arith, h))
got_none (y ∷ ys) (suc k) d h = let l : length ys ≤ k = omega (arith, h) in got_none ys k d l

-- what is there, or the end
pub there : {A : Type 0} (xs : List A) (k : ℕ) → k < length xs → (x : A) × (slice_get xs k ≡ Some x)
there [] k h = absurd (omega (arith, h))
there (y ∷ ys) zero h = (y, refl)
there (y ∷ ys) (suc k) h = let l : k < length ys = omega (arith, h) in there ys k l

-- what stands at a place that is there
pub held : {A : Type 0} (xs : List A) (k : ℕ) (d : A) → k < length xs → slice_get xs k ≡ Some (get_or xs k d)
held [] k d h = absurd (omega (arith, h))
held (y ∷ ys) zero d h = refl
held (y ∷ ys) (suc k) d h = let l : k < length ys = omega (arith, h) in held ys k d l

pub past : {A : Type 0} (xs : List A) (k : ℕ) → length xs ≤ k → slice_get xs k ≡ None
past [] k h = refl
past (y ∷ ys) zero h = absurd (omega (arith, h))
past (y ∷ ys) (suc k) h = let l : length ys ≤ k = omega (arith, h) in past ys k l

pub within : {A : Type 0} (xs : List A) (k : ℕ) (x : A) → slice_get xs k ≡ Some x → k < length xs
within [] k x h = cc
within (y ∷ ys) zero x h = omega arith
within (y ∷ ys) (suc k) x h = let l = within ys k x h in omega (arith, l)

pub at_end : {A : Type 0} (xs : List A) (k : ℕ) → slice_get xs k ≡ None → length xs ≤ k
at_end [] k h = omega arith
at_end (y ∷ ys) zero h = cc
at_end (y ∷ ys) (suc k) h = let l = at_end ys k h in omega (arith, l)

pub opens_at : {A : Type 0} (xs : List A) (k : ℕ) (x : A) → slice_get xs k ≡ Some x → drop k xs ≡ x ∷ drop (k + 1) xs
opens_at xs k x h = opens xs k x (within xs k x h) ∙ ap (λ y. y ∷ drop (k + 1) xs) (got xs k x x h)
