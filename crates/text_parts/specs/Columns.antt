-- Columns as editors count them: in bytes, or in units of UTF-16.
use Rattle.std.specs.Prelude.{ℕ, ◌+◌, ◌-◌, Bool, not, nat_lt, ◌&&◌, List, length, take, drop, count_by}
use Rattle.source_lines.specs.Places.{start_at}
use Rattle.text_parts.specs.declared.places.ColumnUnit.{ColumnUnit}
use Rattle.text_parts.specs.declared.places.ColumnUnit.TheVariants.{Utf8, Utf16}

-- a byte with which a character of UTF-8 begins
abbrev pub begins_character : ℕ → Bool
begins_character b = not (nat_lt 127 b && nat_lt b 192)

-- a byte with which a character of four bytes begins, which has two units of UTF-16
abbrev pub begins_pair : ℕ → Bool
begins_pair b = nat_lt 239 b

-- how many units bytes have
abbrev pub units : ColumnUnit → List ℕ → ℕ
units Utf8 bytes = length bytes
units Utf16 bytes = count_by begins_character bytes + count_by begins_pair bytes

-- what stands on the line of a place in front of it
abbrev pub front_on_line : List ℕ → ℕ → List ℕ
front_on_line text at = take (at - start_at text at) (drop (start_at text at) text)
