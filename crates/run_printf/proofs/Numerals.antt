-- A numeral is that of the number without its last digit, and the last digit.
use Rattle.std.proofs.Common.{◌≡◌, ℕ, zero, suc, ◌/◌, ◌%◌, ◌^◌, ◌<◌, ◌≤◌, false, cond, List, [], ◌∷◌, ◌++◌, refl, sym, ap, ◌∙◌, append_assoc, arith, eq-eqb, ne_eqb}
use Rattle.std.proofs.Math.Nat.{div-eq_of_lt, mul-le-mul_left}
use Rattle.std.proofs.lemmas.Nat.{div_below, le-div}
use Rattle.std.proofs.lemmas.Bool.{cases_lt}
use Rattle.std.proofs.Math.Logic.{⊎_elim}
use Rattle.std.specs.Fmt.{digit_glyph, digits_onto, digits}

abbrev pub last_digit : ℕ → ℕ → ℕ
last_digit base n = digit_glyph false (n % base)

abbrev spell : ℕ → ℕ → ℕ → List ℕ → List ℕ
spell base k n after = digits_onto k base false n after

spell_last : (base k n : ℕ) (after : List ℕ) → n < base → spell base (suc k) n after ≡ last_digit base n ∷ after
spell_last base k n after h =
    ap (λ t. cond t (last_digit base n ∷ after) (spell base k (n / base) (last_digit base n ∷ after))) (eq-eqb (n / base) 0 (div-eq_of_lt h))

spell_next : (base k n : ℕ) (after : List ℕ) → 2 ≤ base → base ≤ n → spell base (suc k) n after ≡ spell base k (n / base) (last_digit base n ∷ after)
spell_next base k n after some h =
    let front : 1 ≤ n / base = le-div 1 n base (omega arith) (omega arith) in
    ap (λ t. cond t (last_digit base n ∷ after) (spell base k (n / base) (last_digit base n ∷ after))) (ne_eqb (n / base) 0 (λ e. omega arith))

spell-append : (base k n : ℕ) (after : List ℕ) → 2 ≤ base → spell base k n after ≡ spell base k n [] ++ after
spell-append base zero n after some = refl
spell-append base (suc k) n after some = ⊎_elim
    (λ h. spell_last base k n after h ∙ ap (λ x. x ++ after) (sym (spell_last base k n [] h)))
    (λ h. spell_next base k n after some h ∙ spell-append base k (n / base) (last_digit base n ∷ after) some
    ∙ sym (append_assoc (spell base k (n / base) []) (last_digit base n ∷ []) after)
    ∙ ap (λ x. x ++ after) (sym (spell_next base k n [] some h ∙ spell-append base k (n / base) (last_digit base n ∷ []) some)))
    (cases_lt n base)

-- how many digits there may be does not matter once they are enough
spell_enough : (base j k n : ℕ) (after : List ℕ) → 2 ≤ base → n < 2 ^ j → n < 2 ^ k → spell base (suc j) n after ≡ spell base (suc k) n after
spell_enough base zero k n after some p q = spell_last base zero n after (omega arith) ∙ sym (spell_last base k n after (omega arith))
spell_enough base (suc j) zero n after some p q = spell_last base (suc j) n after (omega arith) ∙ sym (spell_last base zero n after (omega arith))
spell_enough base (suc j) (suc k) n after some p q = ⊎_elim
    (λ h. spell_last base (suc j) n after h ∙ sym (spell_last base (suc k) n after h))
    (λ h. spell_next base (suc j) n after some h
    ∙ spell_enough base j k (n / base) (last_digit base n ∷ after) some
    (div_below n base (2 ^ j) (omega arith) (omega (arith, mul-le-mul_left (2 ^ j) some)))
    (div_below n base (2 ^ k) (omega arith) (omega (arith, mul-le-mul_left (2 ^ k) some)))
    ∙ sym (spell_next base (suc k) n after some h))
    (cases_lt n base)

pub one_digit : (base n : ℕ) → n < base → digits base false n ≡ last_digit base n ∷ []
unfolding digits
one_digit base n h = spell_last base 63 n [] h

pub more_digits : (base n : ℕ) → 2 ≤ base → base ≤ n → n < 2 ^ 32 → digits base false n ≡ digits base false (n / base) ++ last_digit base n ∷ []
unfolding digits
more_digits base n some h small =
    let front : n / base < 2 ^ 32 = div_below n base (2 ^ 32) (omega arith) (omega (arith, mul-le-mul_left (2 ^ 32) some)) in
    spell_next base 63 n [] some h ∙ spell_enough base 62 63 (n / base) (last_digit base n ∷ []) some (omega arith) (omega arith)
    ∙ spell-append base 64 (n / base) (last_digit base n ∷ []) some
