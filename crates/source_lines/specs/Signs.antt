-- Characters as they are shown.
-- Hold it against docs/FORMATS.md, 'Standard error'.
use Rattle.std.specs.Prelude.{ℕ, ◌/◌, ◌%◌, Bool, not, ◌&&◌, ◌||◌, if◌then◌else◌, nat_eq, nat_le, List, [], ◌∷◌, ◌++◌, codes, encode_utf8}
use Rattle.std.specs.Char.{digit_char, is_control}

-- the character has no width, or turns the direction of what stands behind it
abbrev pub is_unseen : ℕ → Bool
is_unseen c = (nat_le 0x200b c && nat_le c 0x200f) || (nat_le 0x2028 c && nat_le c 0x202e) || (nat_le 0x2066 c && nat_le c 0x2069) || nat_eq c 0xfeff

-- four digits of sixteen
abbrev pub digits_of : ℕ → List ℕ
digits_of c = digit_char (c / 4096 % 16) ∷ digit_char (c / 256 % 16) ∷ digit_char (c / 16 % 16) ∷ digit_char (c % 16) ∷ []

-- the number of a character: `\u{202e}`
abbrev pub number_of : ℕ → List ℕ
number_of c = codes "\\u{" ++ digits_of c ++ codes "}"

-- b'?'
abbrev pub question : ℕ
question = 63

-- b'\t'
abbrev pub tab : ℕ
tab = 9

-- the character itself, or `?` in place of what no terminal prints
abbrev pub printed : ℕ → ℕ
printed c = if nat_eq c tab || not (is_control c) then c else question

-- how a character is shown
abbrev pub shown_character : ℕ → List ℕ
shown_character c = if is_unseen c then number_of c else encode_utf8 (printed c)

-- how many characters show a character
abbrev pub shown_width : ℕ → ℕ
shown_width c = if is_unseen c then 8 else 1
