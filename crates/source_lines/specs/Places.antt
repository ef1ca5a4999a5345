-- The line of a place in a text, and its column.
-- Hold it against docs/FORMATS.md, 'Standard error'.
use Rattle.std.specs.Prelude.{ℕ, ◌+◌, ◌-◌, Bool, ◌||◌, if◌then◌else◌, nat_eq, nat_lt, List, [], ◌∷◌, ◌++◌, length, take, drop, chars, count_by}
use Rattle.std.specs.Str.{is_utf8}

-- a line feed
abbrev pub is_line_feed : ℕ → Bool
is_line_feed b = nat_eq b 10

-- a carriage return
abbrev pub is_return : ℕ → Bool
is_return b = nat_eq b 13

-- a byte that ends a line
abbrev pub ends_line : ℕ → Bool
ends_line b = is_line_feed b || is_return b

-- the bytes up to the last one that is not of these
abbrev pub kept_before : (ℕ → Bool) → ℕ → List ℕ → List ℕ
kept_before p b [] = if p b then [] else b ∷ []
kept_before p b (c ∷ cs) = b ∷ c ∷ cs

abbrev pub trimmed : (ℕ → Bool) → List ℕ → List ℕ
trimmed p [] = []
trimmed p (b ∷ bs) = kept_before p b (trimmed p bs)

-- where a place is shown: the end of the text stands behind its last line that is not empty
abbrev pub shown_offset : List ℕ → ℕ → ℕ
shown_offset text at = if nat_lt at (length text) then at else length (trimmed ends_line text)

-- the number of the line of a place, from 1
abbrev pub number_at : List ℕ → ℕ → ℕ
number_at text at = 1 + count_by is_line_feed (take at text)

-- what stands on the line of a place in front of it, behind one more byte
abbrev pub front_more : List ℕ → ℕ → List ℕ
front_more front b = if is_line_feed b then [] else front ++ b ∷ []

abbrev pub front_from : List ℕ → List ℕ → List ℕ
front_from front [] = front
front_from front (b ∷ bs) = front_from (front_more front b) bs

-- what stands behind the last line feed of these bytes
abbrev pub front_of : List ℕ → List ℕ
front_of before = front_from [] before

-- how many bytes stand before the line of a place
abbrev pub start_at : List ℕ → ℕ → ℕ
start_at text at = length (take at text) - length (front_of (take at text))

-- what stands before the first line feed of these bytes
abbrev pub up_to_feed : List ℕ → List ℕ
up_to_feed [] = []
up_to_feed (b ∷ bs) = if is_line_feed b then [] else b ∷ up_to_feed bs

-- the line of a place, without what ends it
abbrev pub line_at : List ℕ → ℕ → List ℕ
line_at text at = trimmed is_return (up_to_feed (drop (start_at text at) text))

-- how many characters these bytes are, or how many bytes where they are no UTF-8
abbrev pub width : List ℕ → ℕ
width bs = if is_utf8 bs then length (chars bs) else length bs

-- the column of what stands behind so many bytes of a line, from 1
abbrev pub column_of : List ℕ → ℕ → ℕ
column_of line onset = 1 + width (take onset line)

-- the column of a place on its line
abbrev pub column_at : List ℕ → ℕ → ℕ
column_at text at = column_of (line_at text at) (at - start_at text at)
