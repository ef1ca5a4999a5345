-- Lists that are empty, and what is in others.
use Rattle.std.proofs.Common.{◌≡◌, ◌∙◌, ap, sym, subst, refl, ℕ, zero, suc, ◌+◌, ◌<◌, Bool, true, false, ◌||◌, List, [], ◌∷◌, ◌++◌, ◌≤◌, length, Some, None, arith}
use Rattle.std.specs.Prelude.{slice_get}
use Rattle.std.specs.List.{list_any, AllByRecursion, Contains}
use Rattle.std.proofs.lemmas.List.Elements.{Contains-append_left, Contains-append_right}
use Rattle.std.proofs.lemmas.Bool.{true≢false}
use Rattle.std.proofs.lemmas.Option.{none-some, same_Some}
use Rattle.std.proofs.lemmas.List.Folds.{list_any-append}
use Rattle.promela_run.specs.Moves.{or_else, each, last, only_if, is_some}

-- neither of two is anything
pub append_none : {A : Type 0} (xs ys : List A) → xs ++ ys ≡ [] → (xs ≡ []) × (ys ≡ [])
append_none [] ys h = (refl, h)
append_none (x ∷ xs) ys h = cc

pub or_else_none : {A : Type 0} (xs ys : List A) → or_else xs ys ≡ [] → (xs ≡ []) × (ys ≡ [])
or_else_none [] ys h = (refl, h)
or_else_none (x ∷ xs) ys h = cc

pub only_if_none : {A : Type 0} (b : Bool) (x : A) → only_if b x ≡ [] → b ≡ false
only_if_none true x h = cc
only_if_none false x h = refl

pub some_none : {A : Type 0} (xs : List A) → is_some xs ≡ false → xs ≡ []
some_none [] h = refl
some_none (x ∷ xs) h = absurd (true≢false h)

pub either_none : (a b : Bool) → (a || b) ≡ false → (a ≡ false) × (b ≡ false)
either_none true b h = absurd (true≢false h)
either_none false b h = (refl, h)

pub or_else_some : {A : Type 0} (xs ys : List A) → (xs ≡ [] → ⊥) → or_else xs ys ≡ xs
or_else_some [] ys h = absurd (h refl)
or_else_some (x ∷ xs) ys h = refl

pub or_else_first : {A : Type 0} (xs ys : List A) → is_some xs ≡ true → or_else xs ys ≡ xs
or_else_first [] ys h = cc
or_else_first (x ∷ xs) ys h = refl

-- where what each gives is nothing, so is what one of them gives
each_none_from : {A B : Type 0} (f : ℕ → A → List B) (i : ℕ) (xs : List A) → each f i xs ≡ [] → (n : ℕ) (x : A) → slice_get xs n ≡ Some x → f (i + n) x ≡ []
each_none_from f i [] h n x at = absurd (none-some x at)
each_none_from f i (y ∷ ys) h zero x at =
    let here : i + 0 ≡ i = omega arith in
    ap (λ (k : ℕ). f k x) here ∙ ap (f i) (sym (same_Some y x at)) ∙ (append_none (f i y) (each f (i + 1) ys) h).0
each_none_from f i (y ∷ ys) h (suc n) x at =
    let next : i + suc n ≡ i + 1 + n = omega arith in
    ap (λ (k : ℕ). f k x) next ∙ each_none_from f (i + 1) ys (append_none (f i y) (each f (i + 1) ys) h).1 n x at

pub each_none : {A B : Type 0} (f : ℕ → A → List B) (xs : List A) → each f 0 xs ≡ [] → (n : ℕ) (x : A) → slice_get xs n ≡ Some x → f n x ≡ []
each_none f xs h n x at = let same : n ≡ 0 + n = omega arith in ap (λ (k : ℕ). f k x) same ∙ each_none_from f 0 xs h n x at

last_none_from : {A B : Type 0} (f : ℕ → A → List B) (i : ℕ) (xs : List A) → last f i xs ≡ [] → (n : ℕ) (x : A) → slice_get xs n ≡ Some x → f (i + n) x ≡ []
last_none_from f i [] h n x at = absurd (none-some x at)
last_none_from f i (y ∷ ys) h zero x at =
    let here : i + 0 ≡ i = omega arith in
    ap (λ (k : ℕ). f k x) here ∙ ap (f i) (sym (same_Some y x at)) ∙ (or_else_none (last f (i + 1) ys) (f i y) h).1
last_none_from f i (y ∷ ys) h (suc n) x at =
    let next : i + suc n ≡ i + 1 + n = omega arith in
    ap (λ (k : ℕ). f k x) next ∙ last_none_from f (i + 1) ys (or_else_none (last f (i + 1) ys) (f i y) h).0 n x at

pub last_none : {A B : Type 0} (f : ℕ → A → List B) (xs : List A) → last f 0 xs ≡ [] → (n : ℕ) (x : A) → slice_get xs n ≡ Some x → f n x ≡ []
last_none f xs h n x at = let same : n ≡ 0 + n = omega arith in ap (λ (k : ℕ). f k x) same ∙ last_none_from f 0 xs h n x at

-- none of what each gives passes a test
any_none_from : {A B : Type 0} (test : B → Bool) (f : ℕ → A → List B) (i : ℕ) (xs : List A) → list_any test (each f i xs) ≡ false
    → (n : ℕ) (x : A) → slice_get xs n ≡ Some x → list_any test (f (i + n) x) ≡ false
any_none_from test f i [] h n x at = absurd (none-some x at)
any_none_from {A = A} test f i (y ∷ ys) h zero x at =
    let here : i + 0 ≡ i = omega arith in
    let both = either_none (list_any test (f i y)) (list_any test (each f (i + 1) ys)) (sym (list_any-append test (f i y) (each f (i + 1) ys)) ∙ h) in
    ap (λ (k : ℕ). list_any test (f k x)) here ∙ ap (λ (z : A). list_any test (f i z)) (sym (same_Some y x at)) ∙ both.0
any_none_from test f i (y ∷ ys) h (suc n) x at =
    let next : i + suc n ≡ i + 1 + n = omega arith in
    let both = either_none (list_any test (f i y)) (list_any test (each f (i + 1) ys)) (sym (list_any-append test (f i y) (each f (i + 1) ys)) ∙ h) in
    ap (λ (k : ℕ). list_any test (f k x)) next ∙ any_none_from test f (i + 1) ys both.1 n x at

pub any_none : {A B : Type 0} (test : B → Bool) (f : ℕ → A → List B) (xs : List A) → list_any test (each f 0 xs) ≡ false
    → (n : ℕ) (x : A) → slice_get xs n ≡ Some x → list_any test (f n x) ≡ false
any_none test f xs h n x at =
    let same : n ≡ 0 + n = omega arith in ap (λ (k : ℕ). list_any test (f k x)) same ∙ any_none_from test f 0 xs h n x at

-- what holds of all that each gives
all_append : {A : Type 0} (P : A → Type 0) (xs ys : List A) → AllByRecursion P xs → AllByRecursion P ys → AllByRecursion P (xs ++ ys)
all_append P [] ys here there = there
all_append P (x ∷ xs) ys here there = (here.0, all_append P xs ys here.1 there)

all_from : {A B : Type 0} (P : B → Type 0) (f : ℕ → A → List B) (i : ℕ) (xs : List A)
    → ((n : ℕ) (x : A) → slice_get xs n ≡ Some x → AllByRecursion P (f (i + n) x)) → AllByRecursion P (each f i xs)
all_from P f i [] h = tt
all_from P f i (y ∷ ys) h =
    let here : i + 0 ≡ i = omega arith in
    all_append P (f i y) (each f (i + 1) ys) (subst (λ (k : ℕ). AllByRecursion P (f k y)) here (h 0 y refl))
    (all_from P f (i + 1) ys (λ n x at. let next : i + suc n ≡ i + 1 + n = omega arith in subst (λ (k : ℕ). AllByRecursion P (f k x)) next (h (suc n) x at)))

pub all_each : {A B : Type 0} (P : B → Type 0) (f : ℕ → A → List B) (xs : List A)
    → ((n : ℕ) (x : A) → slice_get xs n ≡ Some x → AllByRecursion P (f n x)) → AllByRecursion P (each f 0 xs)
all_each P f xs h = all_from P f 0 xs (λ n x at. let same : n ≡ 0 + n = omega arith in subst (λ (k : ℕ). AllByRecursion P (f k x)) same (h n x at))

-- what one of them gives is among all
contains_from : {A B : Type 0} (f : ℕ → A → List B) (i : ℕ) (xs : List A) (n : ℕ) (x : A) → slice_get xs n ≡ Some x → (y : B) → Contains (f (i + n) x) y → Contains (each f i xs) y
contains_from f i [] n x at y h = absurd (none-some x at)
contains_from {B = B} f i (z ∷ zs) zero x at y h =
    let here : i + 0 ≡ i = omega arith in
    let first : Contains (f i z) y = subst (λ (l : List B). Contains l y) (ap (λ (k : ℕ). f k x) here ∙ ap (f i) (sym (same_Some z x at))) h in
    Contains-append_left (f i z) (each f (i + 1) zs) y first
contains_from {B = B} f i (z ∷ zs) (suc n) x at y h =
    let next : i + suc n ≡ i + 1 + n = omega arith in
    Contains-append_right (f i z) (each f (i + 1) zs) y (contains_from f (i + 1) zs n x at y (subst (λ (l : List B). Contains l y) (ap (λ (k : ℕ). f k x) next) h))

pub each_contains : {A B : Type 0} (f : ℕ → A → List B) (xs : List A) (n : ℕ) (x : A) → slice_get xs n ≡ Some x → (y : B) → Contains (f n x) y → Contains (each f 0 xs) y
each_contains {B = B} f xs n x at y h =
    let same : n ≡ 0 + n = omega arith in contains_from f 0 xs n x at y (subst (λ (l : List B). Contains l y) (ap (λ (k : ℕ). f k x) same) h)

-- nothing is at a place past the end
pub at_end : {A : Type 0} (xs : List A) (k : ℕ) → slice_get xs k ≡ None → length xs ≤ k
at_end [] k h = omega arith
at_end (y ∷ ys) zero h = cc
at_end (y ∷ ys) (suc k) h = let l = at_end ys k h in omega (arith, l)

-- ---- the last that gives anything

-- what the last of them gives is what one of them gives
last_from : {A B : Type 0} (f : ℕ → A → List B) (i : ℕ) (xs : List A) → (last f i xs ≡ [] → ⊥) → (n : ℕ) × (x : A) × (slice_get xs n ≡ Some x) × (last f i xs ≡ f (i + n) x)
last_from f i [] some = absurd (some refl)
last_from {A = A} {B = B} f i (x ∷ xs) some = by (last f (i + 1) xs) refl (λ more. last_from f (i + 1) xs more)
  where
    by : (ys : List B) → last f (i + 1) xs ≡ ys → ((last f (i + 1) xs ≡ [] → ⊥) → (n : ℕ) × (z : A) × (slice_get xs n ≡ Some z) × (last f (i + 1) xs ≡ f (i + 1 + n) z))
        → (n : ℕ) × (z : A) × (slice_get (x ∷ xs) n ≡ Some z) × (or_else (last f (i + 1) xs) (f i x) ≡ f (i + n) z)
    by [] is rest = let here : i + 0 ≡ i = omega arith in (0, x, refl, ap (λ (ys : List B). or_else ys (f i x)) is ∙ ap (λ (k : ℕ). f k x) (sym here))
    by (y ∷ ys) is rest =
        let later = rest (λ none. cons_none y ys (sym is ∙ none)) in
        let next : i + suc later.0 ≡ i + 1 + later.0 = omega arith in
        (suc later.0, later.1, later.2, ap (λ (zs : List B). or_else zs (f i x)) is ∙ sym is ∙ later.3 ∙ ap (λ (k : ℕ). f k later.1) (sym next))
      where
        cons_none : (z : B) (zs : List B) → (z ∷ zs) ≡ [] → ⊥
        cons_none z zs h = cc

-- Something that one of them gives is what the last gives, or a later one gives that.
pub data LastGives {A B : Type 0} (f : ℕ → A → List B) (i : ℕ) (xs : List A) (n : ℕ) (w : B) : Type 0 where
  here : Contains (last f i xs) w → LastGives f i xs n w
  later : (k : ℕ) (x : A) → n < k → slice_get xs k ≡ Some x → last f i xs ≡ f (i + k) x → (last f i xs ≡ [] → ⊥) → LastGives f i xs n w

pub no_element : {A : Type 0} (xs : List A) (w : A) → Contains xs w → xs ≡ [] → ⊥
no_element [] w (k, below, is) h = omega (arith, below)
no_element (x ∷ xs) w c h = cc

last_gives_from : {A B : Type 0} (f : ℕ → A → List B) (i : ℕ) (xs : List A) (n : ℕ) (x : A) → slice_get xs n ≡ Some x → (w : B) → Contains (f (i + n) x) w → LastGives f i xs n w
last_gives_from f i [] n x at w has = absurd (none-some x at)
last_gives_from {A = A} {B = B} f i (z ∷ zs) zero x at w has = by (last f (i + 1) zs) refl
  where
    by : (ys : List B) → last f (i + 1) zs ≡ ys → LastGives f i (z ∷ zs) 0 w
    by [] is =
        let now : i + 0 ≡ i = omega arith in
        let same : f (i + 0) x ≡ f i z = ap (λ (k : ℕ). f k x) now ∙ ap (f i) (sym (same_Some z x at)) in
        here (subst (λ (ys : List B). Contains ys w) (same ∙ ap (λ (ys : List B). or_else ys (f i z)) (sym is)) has)
    by (y ∷ ys) is =
        let found = last_from f (i + 1) zs (λ none. cons_none y ys (sym is ∙ none)) in
        let next : i + suc found.0 ≡ i + 1 + found.0 = omega arith in
        let all : or_else (last f (i + 1) zs) (f i z) ≡ last f (i + 1) zs = ap (λ (l : List B). or_else l (f i z)) is ∙ sym is in
        later (suc found.0) found.1 (omega arith) found.2 (all ∙ found.3 ∙ ap (λ (k : ℕ). f k found.1) (sym next)) (λ none. cons_none y ys (sym is ∙ sym all ∙ none))
      where
        cons_none : (v : B) (vs : List B) → (v ∷ vs) ≡ [] → ⊥
        cons_none v vs h = cc
last_gives_from {A = A} {B = B} f i (z ∷ zs) (suc n) x at w has =
    let next : i + suc n ≡ i + 1 + n = omega arith in
    by (last_gives_from f (i + 1) zs n x at w (subst (λ (ys : List B). Contains ys w) (ap (λ (k : ℕ). f k x) next) has))
  where
    by : LastGives f (i + 1) zs n w → LastGives f i (z ∷ zs) (suc n) w
    by (here has) = here (subst (λ (ys : List B). Contains ys w) (sym (or_else_some (last f (i + 1) zs) (f i z) (no_element (last f (i + 1) zs) w has))) has)
    by (later k y above on is some) =
        let all = or_else_some (last f (i + 1) zs) (f i z) some in
        let next : i + suc k ≡ i + 1 + k = omega arith in
        later (suc k) y (omega (arith, above)) on (all ∙ is ∙ ap (λ (h : ℕ). f h y) (sym next)) (λ none. some (sym all ∙ none))

pub last_gives : {A B : Type 0} (f : ℕ → A → List B) (xs : List A) (n : ℕ) (x : A) → slice_get xs n ≡ Some x → (w : B) → Contains (f n x) w → LastGives f 0 xs n w
last_gives {B = B} f xs n x at w has =
    let same : n ≡ 0 + n = omega arith in last_gives_from f 0 xs n x at w (subst (λ (ys : List B). Contains ys w) (ap (λ (k : ℕ). f k x) same) has)
