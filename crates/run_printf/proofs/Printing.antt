-- A string is gone through byte by byte.
use Rattle.std.proofs.Common.{◌≡◌, ℕ, ◌+◌, ◌<◌, true, false, List, ◌++◌, length, get_or, drop, ℤ, pos, refl, sym, ap, ◌∙◌, append_assoc, add-one, drop-cons, drop-drop}
use Rattle.pml_token.specs.Word.{Word}
use Rattle.promela_run.specs.declared.before.Before.{Before}
use Rattle.promela_run.specs.Lines.{printed_byte, printed_from, before_next, takes_value, values_left}

-- the next byte, and what is behind it
next_byte : (names : List Word) (before : Before) (bytes : List ℕ) (i : ℕ) (values : List ℤ) → i < length bytes →
    printed_from names before (drop i bytes) values ≡ printed_byte names before (get_or bytes i 0) (get_or values 0 (pos 0))
    ++ printed_from names (before_next before (get_or bytes i 0)) (drop (i + 1) bytes) (values_left before (get_or bytes i 0) values)
next_byte names before bytes i values h = rw (add-one, drop-cons bytes i 0) refl

-- a turn of the loop: what is out grows by what the byte prints, and the rest is what was left behind it
pub turn : (names : List Word) (before : Before) (bytes : List ℕ) (i : ℕ) (value : ℤ) (values left : List ℤ) (out grown whole : List ℕ) → i < length bytes →
    value ≡ get_or values 0 (pos 0) → grown ≡ out ++ printed_byte names before (get_or bytes i 0) value → left ≡ values_left before (get_or bytes i 0) values →
    out ++ printed_from names before (drop i bytes) values ≡ whole →
    grown ++ printed_from names (before_next before (get_or bytes i 0)) (drop (i + 1) bytes) left ≡ whole
turn names before bytes i value values left out grown whole h v e f g =
    rw (e, v, f, append_assoc) (ap (λ x. out ++ x) (sym (next_byte names before bytes i values h)) ∙ g)

pub taken : (before : Before) (byte n : ℕ) (values : List ℤ) → takes_value before byte ≡ true → drop (n + 1) values ≡ values_left before byte (drop n values)
taken before byte n values e = rw e (sym (drop-drop 1 n values))

pub kept : (before : Before) (byte n : ℕ) (values : List ℤ) → takes_value before byte ≡ false → drop n values ≡ values_left before byte (drop n values)
kept before byte n values e = rw e refl
