-- Texts in which nothing is for a preprocessor.
use Rattle.std.specs.Prelude.{ℕ, Bool, true, false, not, ◌&&◌, ◌||◌, ◌==◌, nat_le, if◌then◌else◌, List, [], ◌∷◌}

-- blanks and then a digit stand at the front
abbrev pub is_number_next : List ℕ → Bool
is_number_next [] = false
is_number_next (b ∷ t) = if b == 32 then is_number_next t else nat_le 48 b && nat_le b 57

-- a line ends here
abbrev pub begins_feed : List ℕ → Bool
begins_feed [] = false
begins_feed (b ∷ t) = b == 10

abbrev pub ends_line : List ℕ → Bool
ends_line [] = false
ends_line (b ∷ t) = b == 10 || (b == 13 && begins_feed t)

-- what a byte is behind another, and before a text, has a meaning to a preprocessor: a `\` at the end of a line, the second of two `_`, or a `#` that begins no mark
abbrev pub is_meant : ℕ → ℕ → List ℕ → Bool
is_meant last b t = ((b == 92 && ends_line t) || (b == 95 && last == 95)) || (b == 35 && not (last == 10 && is_number_next t))

abbrev pub is_plain_behind : ℕ → List ℕ → Bool
is_plain_behind last [] = true
is_plain_behind last (b ∷ t) = if is_meant last b t then false else is_plain_behind b t

-- no byte of the text has one
abbrev pub is_plain : List ℕ → Bool
is_plain text = is_plain_behind 10 text

-- how many bytes the joint at the front of a text has, or 0
abbrev pub joint_of : List ℕ → ℕ
joint_of (b ∷ c ∷ t) = if b == 92 && c == 10 then 2 else (if b == 92 && (c == 13 && begins_feed t) then 3 else 0)
joint_of _ = 0
