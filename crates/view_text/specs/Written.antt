-- A text that is written piece by piece.
use Rattle.std.specs.Prelude.{◌≡◌, ℕ, ◌/◌, ◌%◌, Bool, true, false, ltb, ◌||◌, if◌then◌else◌, nat_eq, List, [], ◌∷◌, ◌++◌, codes}
use Rattle.std.specs.Char.{digit_char}
use Rattle.std.specs.List.{flat_map}

-- What is written, and whether memory was refused for some of it.
pub record Written : Type 0 where
  pub text : List ℕ
  pub refused : Bool

-- where memory was refused it stays so
abbrev pub Stays : Written → Written → Type 0
Stays old new = old.refused ≡ true → new.refused ≡ true

-- these bytes are written, unless memory is refused
pub record Adds (old new : Written) (bytes : List ℕ) : Type 0 where
  pub stays : Stays old new
  pub added : new.refused ≡ false → new.text ≡ old.text ++ bytes

-- a byte within quotation marks: a line feed, a tab, a backslash, a quotation mark, and what is below 32 or 127, by an escape
abbrev pub quoted_byte : ℕ → List ℕ
quoted_byte b =
    if nat_eq b 10 then codes "\\n" else if nat_eq b 9 then codes "\\t" else if nat_eq b 92 then codes "\\\\" else if nat_eq b 34 then codes "\\\""
    else if ltb b 32 || nat_eq b 127 then codes "\\x" ++ (digit_char (b / 16) ∷ digit_char (b % 16) ∷ []) else b ∷ []

-- bytes between quotation marks, on one line
abbrev pub quoted : List ℕ → List ℕ
quoted bs = 34 ∷ (flat_map quoted_byte bs ++ 34 ∷ [])
