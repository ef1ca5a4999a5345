-- Bytes that others wrote, as a terminal is shown them.
use Rattle.std.specs.Prelude.{ℕ, Bool, ◌&&◌, ◌||◌, if◌then◌else◌, ltb, nat_le, nat_eq, List, [], ◌∷◌, chars}
use Rattle.std.specs.List.{flat_map, list_all}
use Rattle.std.specs.Str.{is_utf8}
use Rattle.source_lines.specs.Signs.{shown_character}

-- a line feed, and from the blank to `~`: they are shown as they are
abbrev pub is_plain : ℕ → Bool
is_plain b = nat_eq b 10 || (nat_le 32 b && nat_le b 126)

-- a line feed stays, a carriage return is not shown, and the others are as --explain shows them
abbrev pub shown_sign : ℕ → List ℕ
shown_sign c = if nat_eq c 10 then 10 ∷ [] else if nat_eq c 13 then [] else shown_character c

-- a sign for a byte that is of no character: one that no terminal prints for each above 127
abbrev pub sign_of : ℕ → ℕ
sign_of b = if ltb b 128 then b else 128

abbrev pub shown_sign_byte : ℕ → List ℕ
shown_sign_byte b = shown_sign (sign_of b)

-- the characters of lines as they are shown, or their bytes where they are no UTF-8
abbrev pub shown_text : List ℕ → List ℕ
shown_text bs = if is_utf8 bs then flat_map shown_sign (chars bs) else flat_map shown_sign_byte bs

-- bytes as they are shown
abbrev pub shown_bytes : List ℕ → List ℕ
shown_bytes bs = if list_all is_plain bs then bs else shown_text bs
