-- JSON that is written token by token.
use Rattle.std.specs.Prelude.{◌≡◌, ℕ, Bool, true, false, ltb, if◌then◌else◌, List, ◌++◌}
use Rattle.std.specs.List.{flat_map}
use Rattle.std.specs.Str.{is_utf8}
use Rattle.std.specs.Char.{encode_utf8}
use Rattle.json.specs.Token.{Token}

-- The tokens that are written, and whether memory was refused for some of them.
pub record Printed : Type 0 where
  pub tokens : List Token
  pub refused : Bool

-- where memory was refused it stays so
abbrev pub Stays : Printed → Printed → Type 0
Stays old new = old.refused ≡ true → new.refused ≡ true

-- these tokens are written, unless memory is refused
pub record Writes (old new : Printed) (ts : List Token) : Type 0 where
  pub stays : Stays old new
  pub added : new.refused ≡ false → new.tokens ≡ old.tokens ++ ts

-- the character that stands for a byte where bytes are no UTF-8: U+FFFD for those above 127
abbrev pub mended : ℕ → List ℕ
mended b = encode_utf8 (if ltb b 128 then b else 65533)

-- bytes as a string
abbrev pub string_of : List ℕ → List ℕ
string_of bs = if is_utf8 bs then bs else flat_map mended bs
