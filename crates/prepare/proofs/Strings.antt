-- One stretch of the loops over the bytes of a string.
use Rattle.std.proofs.Common.{◌≡◌, ℕ, ◌+◌, ◌<◌, ◌≤◌, Bool, true, false, eqb, List, [], ◌∷◌, length, get_or, take, drop, length-drop, ◌-◌, Some, None, ◌++◌, sym, refl, ap, ◌∙◌, append_assoc, append-nil}
use Rattle.std.specs.Prelude.{if◌then◌else◌}
use Rattle.std.proofs.Math.ListN.{drop_of_length-le}
use Rattle.std.proofs.Math.Seq.{take-length}
use Rattle.pml_lex.proofs.Turns.{from_place}
use Rattle.prepare.specs.Stretches.{string_end}
use Rattle.prepare.specs.Spelling.{is_break, unless_break, escapes, unbroken}

pub string_stretch : (xs : List ℕ) (i : ℕ) (e : Bool) → i < length xs →
    string_end i e (drop i xs) ≡ (if e then string_end (i + 1) false (drop (i + 1) xs) else (if eqb (get_or xs i 0) 34 then Some (i + 1) else string_end (i + 1) (eqb (get_or xs i 0) 92) (drop (i + 1) xs)))
unfolding string_end
string_stretch xs i e h = ap (string_end i e) (from_place xs i h)

pub string_none : (xs : List ℕ) (i : ℕ) (e : Bool) → length xs ≤ i → string_end i e (drop i xs) ≡ None
unfolding string_end
string_none xs i e h = ap (string_end i e) (drop_of_length-le xs h)

-- one byte of a string
byte_by : (t : Bool) (b : ℕ) (rest : List ℕ) → unless_break t b [] ++ rest ≡ unless_break t b rest
byte_by true b rest = refl
byte_by false b rest = refl

byte_is : (e : Bool) (b : ℕ) (q : List ℕ) → unbroken e (b ∷ q) ≡ unless_break (is_break e b q) b [] ++ unbroken (escapes e b) q
unfolding unbroken
byte_is e b q = sym (byte_by (is_break e b q) b (unbroken (escapes e b) q))

pub unbroken_byte : (out xs : List ℕ) (i : ℕ) (e : Bool) → i < length xs
    → (out ++ unless_break (is_break e (get_or xs i 0) (drop (i + 1) xs)) (get_or xs i 0) []) ++ unbroken (escapes e (get_or xs i 0)) (drop (i + 1) xs) ≡ out ++ unbroken e (drop i xs)
unbroken_byte out xs i e h =
    let b = get_or xs i 0 in
    let q = drop (i + 1) xs in
    append_assoc out (unless_break (is_break e b q) b []) (unbroken (escapes e b) q) ∙ ap (λ ys. out ++ ys) (sym (byte_is e b q)) ∙ ap (λ ys. out ++ unbroken e ys) (sym (from_place xs i h))

pub whole_rest : (n : ℕ) (xs : List ℕ) → take (length xs - n) (drop n xs) ≡ drop n xs
whole_rest n xs = rw (← length-drop n xs) (take-length (drop n xs))

nothing : (e : Bool) → unbroken e [] ≡ []
unfolding unbroken
nothing e = refl

pub unbroken_end : (out xs : List ℕ) (i : ℕ) (e : Bool) → length xs ≤ i → out ++ unbroken e (drop i xs) ≡ out
unbroken_end out xs i e h = ap (λ ys. out ++ unbroken e ys) (drop_of_length-le xs h) ∙ ap (λ ys. out ++ ys) (nothing e) ∙ append-nil out
