-- Where something stands among what was written last, as a search for it from the first place on finds it.
use Rattle.std.proofs.Common.{◌≡◌, ◌<◌, ◌≤◌, ◌+◌, ℕ, zero, suc, List, [], ◌∷◌, length, Bool, true, false, cond, not, nat_lt, Some, None, refl, sym, ap, ◌∙◌, arith}
use Rattle.std.proofs.lemmas.Bool.{true≢false}
use Rattle.std.proofs.lemmas.Bool.Decides.{nat_tests}
use Rattle.std.specs.List.{position, position_or_len}
use Rattle.view_json.specs.Places.{passes_at}

-- none of the first so many passes
abbrev pub NoneOf : {X : Type 0} → (X → Bool) → List X → ℕ → Type 0
NoneOf test xs n = (k : ℕ) → k < n → passes_at test xs k ≡ false

first_len : {X : Type 0} (test : X → Bool) (xs : List X) (i : ℕ) → NoneOf test xs i → passes_at test xs i ≡ true → (position_or_len test xs ≡ i) × (i < length xs)
first_len test [] i before at = absurd (true≢false (sym at))
first_len test (x ∷ xs) zero before at = (ap (λ (b : Bool). cond (not b) (1 + position_or_len test xs) 0) at, omega arith)
first_len test (x ∷ xs) (suc i) before at =
    let none : test x ≡ false = before 0 (omega arith) in
    let rest = first_len test xs i (λ k l. before (suc k) (omega (arith, l))) at in
    let more : position_or_len test (x ∷ xs) ≡ 1 + position_or_len test xs = ap (λ (b : Bool). cond (not b) (1 + position_or_len test xs) 0) none in
    (omega (arith, more, rest.0), omega (arith, rest.1))

none_len : {X : Type 0} (test : X → Bool) (xs : List X) → NoneOf test xs (length xs) → position_or_len test xs ≡ length xs
none_len test [] before = refl
none_len test (x ∷ xs) before =
    let none : test x ≡ false = before 0 (omega arith) in
    let rest = none_len test xs (λ k l. before (suc k) (omega (arith, l))) in
    let more : position_or_len test (x ∷ xs) ≡ 1 + position_or_len test xs = ap (λ (b : Bool). cond (not b) (1 + position_or_len test xs) 0) none in
    omega (arith, more, rest)

-- the first that passes is found
pub found : {X : Type 0} (test : X → Bool) (xs : List X) (i : ℕ) → NoneOf test xs i → passes_at test xs i ≡ true → Some i ≡ position test xs
found test xs i before at =
    let p = first_len test xs i before at in
    let here : nat_lt i (length xs) ≡ true = let l = p.1 in grind (arith, nat_tests, l) in
    let is : position test xs ≡ Some i =
    ap (λ (n : ℕ). cond (nat_lt n (length xs)) (Some n) None) p.0 ∙ ap (λ (b : Bool). cond b (Some i) None) here in
    sym is

-- or there is none
pub none_found : {X : Type 0} (test : X → Bool) (xs : List X) → NoneOf test xs (length xs) → None ≡ position test xs
none_found test xs before =
    let n = length xs in
    let out : nat_lt n n ≡ false = grind (arith, nat_tests) in
    let is : position test xs ≡ None =
    ap (λ (m : ℕ). cond (nat_lt m n) (Some m) None) (none_len test xs before) ∙ ap (λ (b : Bool). cond b (Some n) None) out in
    sym is
