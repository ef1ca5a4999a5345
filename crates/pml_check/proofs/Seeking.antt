-- Searches that decide.
use Rattle.std.proofs.Common.{◌≡◌, ◌⊎◌, inl, inr, ℕ, zero, suc, ◌<◌, Bool, true, false, List, [], ◌∷◌, Option, Some, refl, ap, ◌∙◌, subst, arith}
use Rattle.std.specs.Prelude.{slice_get}
use Rattle.std.proofs.lemmas.Bool.{cases_eq}

some_is : {A : Type 0} {x y : A} → ◌≡◌ {A = Option A} (Some x) (Some y) → x ≡ y
some_is h = cc

-- a test of numbers below a bound
abbrev pub OneBelow : (ℕ → Bool) → ℕ → Type 0
OneBelow p n = (i : ℕ) × (i < n) × (p i ≡ true)

abbrev pub NoneBelow : (ℕ → Bool) → ℕ → Type 0
NoneBelow p n = (i : ℕ) → i < n → p i ≡ false

pub below : (p : ℕ → Bool) (n : ℕ) → OneBelow p n ⊎ NoneBelow p n
below p zero = inr (λ i l. absurd (omega arith))
below p (suc n) = by_rest (below p n)
  where
    by_last : (b : Bool) → p n ≡ b → NoneBelow p n → OneBelow p (suc n) ⊎ NoneBelow p (suc n)
    by_last true e none = inl (n, omega arith, e)
    by_last false e none = inr (λ i l. by_place i l (cases_eq i n))
      where
        by_place : (i : ℕ) → i < suc n → (i ≡ n) ⊎ ((i ≡ n) → ⊥) → p i ≡ false
        by_place i l (inl same) = ap p same ∙ e
        by_place i l (inr other) = none i (omega arith)

    by_rest : OneBelow p n ⊎ NoneBelow p n → OneBelow p (suc n) ⊎ NoneBelow p (suc n)
    by_rest (inl h) = let l = h.1 in inl (h.0, omega arith, h.2)
    by_rest (inr none) = by_last (p n) refl none

-- what is decided of each of a list
module _ {A : Type 0} (P Q : A → Type 0) (decides : (x : A) → P x ⊎ Q x) where
  abbrev pub OneOf : List A → Type 0
  OneOf xs = (k : ℕ) × (x : A) × (slice_get xs k ≡ Some x) × P x

  abbrev pub EachOf : List A → Type 0
  EachOf xs = (k : ℕ) (x : A) → slice_get xs k ≡ Some x → Q x

  each_more : (y : A) (ys : List A) → Q y → EachOf ys → EachOf (y ∷ ys)
  each_more y ys q all zero x h = subst Q (some_is h) q
  each_more y ys q all (suc k) x h = all k x h

  pub of_list : (xs : List A) → OneOf xs ⊎ EachOf xs
  of_list [] = inr (λ k x h. absurd cc)
  of_list (y ∷ ys) = by_both (decides y) (of_list ys)
    where
      by_both : P y ⊎ Q y → OneOf ys ⊎ EachOf ys → OneOf (y ∷ ys) ⊎ EachOf (y ∷ ys)
      by_both (inl p) rest = inl (zero, y, refl, p)
      by_both (inr q) (inl h) = inl (suc h.0, h.1, h.2, h.3)
      by_both (inr q) (inr all) = inr (each_more y ys q all)
