-- Bytes as strings.
use Rattle.std.proofs.Common.{◌≡◌, ap, refl, ℕ, Bool, true, false, if◌then◌else◌, List}
use Rattle.std.specs.List.{flat_map}
use Rattle.std.specs.Str.{IsUtf8, is_utf8}
use Rattle.std.proofs.lemmas.Str.{IsUtf8-from_is_utf8, is_utf8-from_IsUtf8}
use Rattle.view_tokens.specs.Printed.{mended, string_of}

-- UTF-8 is its own string
pub is_string : (bs : List ℕ) → IsUtf8 bs → string_of bs ≡ bs
is_string bs is = ap (λ (b : Bool). if b then bs else flat_map mended bs) (is_utf8-from_IsUtf8 bs is)

-- other bytes are mended
pub no_string : (bs : List ℕ) → ¬ (IsUtf8 bs) → string_of bs ≡ flat_map mended bs
no_string bs is_not = by (is_utf8 bs) refl
  where
    by : (b : Bool) → is_utf8 bs ≡ b → string_of bs ≡ flat_map mended bs
    by true is = absurd (is_not (IsUtf8-from_is_utf8 bs is))
    by false is = ap (λ (b : Bool). if b then bs else flat_map mended bs) is
