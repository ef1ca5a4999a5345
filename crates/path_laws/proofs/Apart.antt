-- Lists of moves in which none stands twice.
use Rattle.std.proofs.Common.{◌≡◌, ℕ, zero, suc, ◌+◌, ◌<◌, Bool, true, false, List, [], ◌∷◌, ◌++◌, Some, slice_get, refl, sym, ap, ◌∙◌, arith}
use Rattle.promela_run.specs.declared.moves.Move.{Move}
use Rattle.promela_run.specs.Moves.{or_else, each, last, only_if}
use Rattle.run_search.specs.Laws.{Each}
use Rattle.path_laws.specs.OneRecord.{StandOnce}

-- it stands nowhere in the list
abbrev pub NotIn : Move → List Move → Type 0
NotIn m ms = (i : ℕ) → slice_get ms i ≡ Some m → ⊥

-- none stands behind itself
abbrev pub Apart : List Move → Type 0
Apart [] = Unit {0}
Apart (m ∷ ms) = NotIn m ms × Apart ms

none_there : (m : Move) (i : ℕ) → slice_get [] i ≡ Some m → ⊥
none_there m i e = cc

some_same : (a b : Move) → Some a ≡ Some b → a ≡ b
some_same a b e = cc

pub stand_once : (ms : List Move) → Apart ms → StandOnce ms
stand_once [] apart i j m here there = absurd (none_there m i here)
stand_once (k ∷ ks) apart zero zero m here there = refl
stand_once (k ∷ ks) apart zero (suc j) m here there = absurd (apart.0 j (there ∙ sym here))
stand_once (k ∷ ks) apart (suc i) zero m here there = absurd (apart.0 i (here ∙ sym there))
stand_once (k ∷ ks) apart (suc i) (suc j) m here there = ap suc (stand_once ks apart.1 i j m here there)

-- ---- one list behind another

in_neither : (m : Move) (xs ys : List Move) → NotIn m xs → NotIn m ys → NotIn m (xs ++ ys)
in_neither m [] ys here there i e = there i e
in_neither m (x ∷ xs) ys here there zero e = here zero e
in_neither m (x ∷ xs) ys here there (suc i) e = in_neither m xs ys (λ j. here (suc j)) there i e

both : (P : Move → Type 0) (xs ys : List Move) → Each P xs → Each P ys → Each P (xs ++ ys)
both P [] ys here there = there
both P (x ∷ xs) ys here there = (here.0, both P xs ys here.1 there)

above : (P Q : Move → Type 0) → ((m : Move) → P m → Q m) → (ms : List Move) → Each P ms → Each Q ms
above P Q so [] each = tt
above P Q so (m ∷ ms) each = (so m each.0, above P Q so ms each.1)

-- ---- by numbers of moves that rise

module _ (number : Move → ℕ) where
  higher : (m : Move) (ms : List Move) → Each (λ k. number m < number k) ms → NotIn m ms
  higher m [] up i e = none_there m i e
  higher m (k ∷ ks) up zero e = let same = ap number (some_same k m e) in let more = up.0 in absurd (omega arith)
  higher m (k ∷ ks) up (suc i) e = higher m ks up.1 i e

  joined : (n : ℕ) (xs ys : List Move) → Each (λ m. number m ≡ n) xs → Apart xs → Each (λ m. n < number m) ys → Apart ys → Apart (xs ++ ys)
  joined n [] ys here apart up there = there
  joined n (x ∷ xs) ys here apart up there =
      let is : number x ≡ n = here.0 in
      (in_neither x xs ys apart.0 (higher x ys (above (λ m. n < number m) (λ m. number x < number m) (λ m more. omega (arith, is, more)) ys up)), joined n xs ys here.1 apart.1 up there)

  module _ {A : Type 0} (f : ℕ → A → List Move) (is : (i : ℕ) (x : A) → Each (λ m. number m ≡ i) (f i x)) where
    all_above : (n i : ℕ) → n < i → (xs : List A) → Each (λ m. n < number m) (each f i xs)
    all_above n i below [] = tt
    all_above n i below (x ∷ xs) =
        both (λ m. n < number m) (f i x) (each f (i + 1) xs) (above (λ m. number m ≡ i) (λ m. n < number m) (λ m e. omega (arith, below, e)) (f i x) (is i x)) (all_above n (i + 1) (omega (arith, below)) xs)

    -- lists whose moves have the lists' own numbers
    pub each_apart : ((i : ℕ) (x : A) → Apart (f i x)) → (i : ℕ) (xs : List A) → Apart (each f i xs)
    each_apart so i [] = tt
    each_apart so i (x ∷ xs) = joined i (f i x) (each f (i + 1) xs) (is i x) (so i x) (all_above i (i + 1) (omega arith) xs) (each_apart so (i + 1) xs)

-- ---- what holds of lists

pub or_holds : (P : List Move → Type 0) (xs ys : List Move) → P xs → P ys → P (or_else xs ys)
or_holds P [] ys here there = there
or_holds P (x ∷ xs) ys here there = here

pub last_holds : {A : Type 0} (P : List Move → Type 0) (f : ℕ → A → List Move) → P [] → ((i : ℕ) (x : A) → P (f i x)) → (i : ℕ) (xs : List A) → P (last f i xs)
last_holds P f none so i [] = none
last_holds P f none so i (x ∷ xs) = or_holds P (last f (i + 1) xs) (f i x) (last_holds P f none so (i + 1) xs) (so i x)

pub each_holds : {A : Type 0} (P : Move → Type 0) (f : ℕ → A → List Move) → ((i : ℕ) (x : A) → Each P (f i x)) → (i : ℕ) (xs : List A) → Each P (each f i xs)
each_holds P f so i [] = tt
each_holds P f so i (x ∷ xs) = both P (f i x) (each f (i + 1) xs) (so i x) (each_holds P f so (i + 1) xs)

pub only_holds : (P : Move → Type 0) (b : Bool) (m : Move) → P m → Each P (only_if b m)
only_holds P true m so = (so, tt)
only_holds P false m so = tt

pub only_apart : (b : Bool) (m : Move) → Apart (only_if b m)
only_apart true m = (λ i e. none_there m i e, tt)
only_apart false m = tt

pub one_apart : (m : Move) → Apart (m ∷ [])
one_apart m = (λ i e. none_there m i e, tt)
