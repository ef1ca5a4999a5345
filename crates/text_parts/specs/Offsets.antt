-- The place in a text that an editor's line and column name.
use Rattle.std.specs.Prelude.{ℕ, zero, suc, ◌+◌, ◌-◌, nat_eq, ◌&&◌, if◌then◌else◌, List, [], ◌∷◌, drop}
use Rattle.source_lines.specs.Places.{is_line_feed, is_return, trimmed, up_to_feed}
use Rattle.text_parts.specs.declared.places.ColumnUnit.{ColumnUnit}
use Rattle.text_parts.specs.declared.places.ColumnUnit.TheVariants.{Utf8, Utf16}
use Rattle.text_parts.specs.declared.places.EditorPlace.{EditorPlace}
use Rattle.text_parts.specs.Columns.{begins_character, begins_pair}

-- how many units a byte counts
abbrev pub units_in : ColumnUnit → ℕ → ℕ
units_in Utf8 b = 1
units_in Utf16 b = (if begins_character b then 1 else 0) + (if begins_pair b then 1 else 0)

-- how many bytes stand before the line behind so many others
abbrev pub start_of : ℕ → List ℕ → ℕ
start_of n [] = 0
start_of n (b ∷ bs) = if nat_eq n 0 then 0 else 1 + start_of (if is_line_feed b then n - 1 else n) bs

-- how many bytes stand before the first character that so many units do not reach
abbrev pub reach : ColumnUnit → ℕ → List ℕ → ℕ
reach u n [] = 0
reach u n (b ∷ bs) = if nat_eq n 0 && begins_character b then 0 else 1 + reach u (n - units_in u b) bs

-- the line behind so many bytes, without what ends it
abbrev pub line_from : List ℕ → ℕ → List ℕ
line_from text start = trimmed is_return (up_to_feed (drop start text))

-- how many bytes stand before a place
abbrev pub offset_of : ColumnUnit → EditorPlace → List ℕ → ℕ
offset_of u p text = start_of p.line text + reach u p.column (line_from text (start_of p.line text))
