-- A loop that looks for the first of a list that does not hold.
use Rattle.std.proofs.Common.{◌≡◌, ◌||◌, Bool, true, false, ℕ, ◌+◌, ◌<◌, ◌≤◌, List, length, get_or, Some, refl, ap, subst, ◌∙◌, inl, inr, arith}
use Rattle.std.specs.Prelude.{slice_get}
use Rattle.std.proofs.lemmas.Option.{slice_get_read, slice_get_within}
use Rattle.std.proofs.lemmas.Bool.{cases_eq}

-- all so far, and here
pub one_more : {A : Type 0} (Q : A → Type 0) (xs : List A) (i : ℕ) (x : A) → i < length xs → x ≡ get_or xs i x → Q x → ((k : ℕ) (y : A) → k < i → slice_get xs k ≡ Some y → Q y) → (k : ℕ) (y : A) → k < i + 1 → slice_get xs k ≡ Some y → Q y
one_more {A} Q xs i x h e q before k y lt s =
    elim (cases_eq k i) [
      | inl same ↦
          let at : slice_get xs k ≡ Some x = ap (slice_get xs) same ∙ slice_get_read xs (length xs) i x refl h e in
          let is : x ≡ y = cc in
          subst (λ (z : A). Q z) is q
      | inr other ↦ before k y (omega arith) s
    ]

-- all of them
pub all_of : {A : Type 0} (Q : A → Type 0) (xs : List A) (i : ℕ) → length xs ≤ i → ((k : ℕ) (y : A) → k < i → slice_get xs k ≡ Some y → Q y) → (k : ℕ) (y : A) → slice_get xs k ≡ Some y → Q y
all_of Q xs i h before k y s = before k y (let lt : k < length xs = slice_get_within xs k y s in omega arith) s

-- one of a list is such, or each of those before the number i is other
abbrev pub SoFar : {A : Type 0} → (A → Type 0) → (A → Type 0) → List A → ℕ → Bool → Type 0
SoFar {A} P Q xs i true = (k : ℕ) × (x : A) × (slice_get xs k ≡ Some x) × P x
SoFar {A} P Q xs i false = (k : ℕ) (x : A) → k < i → slice_get xs k ≡ Some x → Q x

-- such or other, here
abbrev pub Here : {A : Type 0} → (A → Type 0) → (A → Type 0) → A → Bool → Type 0
Here P Q x true = P x
Here P Q x false = Q x

-- one more
pub so_far-more : {A : Type 0} (P Q : A → Type 0) (xs : List A) (i : ℕ) (x : A) (before here : Bool) → i < length xs → x ≡ get_or xs i x
    → SoFar P Q xs i before → Here P Q x here → SoFar P Q xs (i + 1) (before || here)
so_far-more P Q xs i x true here h e all one = all
so_far-more P Q xs i x false true h e all one = (i, x, slice_get_read xs (length xs) i x refl h e, one)
so_far-more P Q xs i x false false h e all one = one_more Q xs i x h e one all
