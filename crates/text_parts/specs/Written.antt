-- Blanks in place of bytes.
use Rattle.std.specs.Prelude.{ℕ, suc, nat_eq, Bool, ◌||◌, if◌then◌else◌, List, [], ◌∷◌, drop}
use Rattle.source_lines.specs.Places.{is_line_feed}

-- a blank or a line feed
abbrev pub is_gap : ℕ → Bool
is_gap b = nat_eq b 32 || is_line_feed b

-- how many bytes are neither
abbrev pub shown_in : List ℕ → ℕ
shown_in [] = 0
shown_in (b ∷ bs) = if is_gap b then shown_in bs else suc (shown_in bs)

-- the first of some signs, or a blank
abbrev pub byte_for : List ℕ → ℕ
byte_for [] = 32
byte_for (s ∷ ss) = s

-- signs, and then blanks, in place of bytes; line feeds stay
abbrev pub written : List ℕ → List ℕ → List ℕ
written ss [] = []
written ss (b ∷ bs) = if is_line_feed b then b ∷ written ss bs else byte_for ss ∷ written (drop 1 ss) bs
