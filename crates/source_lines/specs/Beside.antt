-- The line of a text that another one was prepared of, and the place on it.
-- Hold it against docs/FORMATS.md, 'Standard error'.
use Rattle.std.specs.Prelude.{ℕ, zero, suc, ◌+◌, ◌-◌, min, Bool, true, false, not, ◌&&◌, ◌||◌, if◌then◌else◌, nat_eq, nat_lt, nat_le, List, [], ◌∷◌, length, slice_index_or, bytes_eq, Option, Some, None}
use Rattle.std.specs.List.{range_with_len}
use Rattle.source_lines.specs.Places.{is_line_feed, is_return, trimmed, up_to_feed}
use Rattle.source_lines.specs.Shown.{part}

-- what stands behind so many line feeds
abbrev pub behind_feeds : List ℕ → ℕ → Option (List ℕ)
behind_feeds bs zero = Some bs
behind_feeds [] (suc n) = None
behind_feeds (b ∷ bs) (suc n) = behind_feeds bs (if is_line_feed b then n else suc n)

-- the first line, without what ends it
abbrev pub first_line : Option (List ℕ) → Option (List ℕ)
first_line None = None
first_line (Some bs) = Some (trimmed is_return (up_to_feed bs))

-- the line of this number, from 1
abbrev pub numbered_line : List ℕ → ℕ → Option (List ℕ)
numbered_line text n = first_line (behind_feeds text (n - 1))

-- b'_'
abbrev pub underscore : ℕ
underscore = 95

-- a byte may stand within a word
abbrev pub is_of_word : ℕ → Bool
is_of_word b = nat_eq b underscore || (nat_le 48 b && nat_le b 57) || (nat_le 65 b && nat_le b 90) || (nat_le 97 b && nat_le b 122)

-- the bytes on the two sides of a place are of one word
abbrev pub is_joined : List ℕ → ℕ → Bool
is_joined line at = nat_lt 0 at && nat_lt at (length line) && is_of_word (slice_index_or line (at - 1) 0) && is_of_word (slice_index_or line at 0)

-- a token stands at a place of a line, and goes on neither before it nor behind it
abbrev pub stands_at : List ℕ → List ℕ → ℕ → Bool
stands_at line token at = not (is_joined line at) && not (is_joined line (at + length token)) && bytes_eq (part line at (at + length token)) token

-- for how many numbers below one a test holds
abbrev pub counted_below : (ℕ → Bool) → ℕ → ℕ
counted_below p zero = 0
counted_below p (suc n) = counted_below p n + (if p n then 1 else 0)

-- how often it stands on a line before a place
abbrev pub count_before : List ℕ → List ℕ → ℕ → ℕ
count_before line token end = counted_below (stands_at line token) end

-- the one of these numbers behind so many others for which a test holds
abbrev pub next_such : Bool → ℕ → ℕ → (ℕ → Option ℕ) → Option ℕ
next_such false at n rest = rest n
next_such true at zero rest = Some at
next_such true at (suc n) rest = rest n

abbrev pub such_behind : (ℕ → Bool) → List ℕ → ℕ → Option ℕ
such_behind p [] n = None
such_behind p (x ∷ xs) n = next_such (p x) x n (such_behind p xs)

-- where it stands on a line behind so many others of its own
abbrev pub place_of : List ℕ → List ℕ → ℕ → Option ℕ
place_of line token n = such_behind (stands_at line token) (range_with_len 0 (length line)) n

-- by how often it stands on the one line and on the other: as the same of as many, or as the only one
abbrev pub place_by : ℕ → ℕ → List ℕ → List ℕ → ℕ → Option ℕ
place_by n m own token before =
    if nat_eq n m then place_of own token before else (if nat_eq n 1 then place_of own token 0 else None)

-- where the token at a place of one line stands on another
abbrev pub place_on : List ℕ → List ℕ → ℕ → List ℕ → Option ℕ
place_on own line onset token =
    if nat_eq (length token) 0 then None
    else place_by (count_before own token (length own)) (count_before line token (length line)) own token (count_before line token onset)

-- what is shown of a line: its bytes, where the place begins on it, if it is found there, and how many bytes it has
pub record Sight : Type 0 where
  pub bytes : List ℕ
  pub onset : Option ℕ
  pub bytes_marked : ℕ

-- the line itself
abbrev pub itself : List ℕ → ℕ → ℕ → Sight
itself line onset n = record { bytes = line; onset = Some onset; bytes_marked = n }

-- where what is marked ends on its line
abbrev pub token_end : List ℕ → ℕ → ℕ → ℕ
token_end line onset n = min (min onset (length line) + n) (length line)

-- what is marked of a line
abbrev pub token_of : List ℕ → ℕ → ℕ → List ℕ
token_of line onset n = part line (min onset (length line)) (token_end line onset n)

-- another line than that of the text, with the token's place on it
abbrev pub seen_on : List ℕ → List ℕ → ℕ → ℕ → Sight
seen_on own line onset n = record {
  bytes = own;
  onset = place_on own line (min onset (length line)) (token_of line onset n);
  bytes_marked = length (token_of line onset n);
}

abbrev pub seen_beside : Option (List ℕ) → List ℕ → ℕ → ℕ → Sight
seen_beside None line onset n = itself line onset n
seen_beside (Some own) line onset n = if bytes_eq own line then itself line onset n else seen_on own line onset n

-- what is shown of the line of this number: where the source's line of the number is another, that one
abbrev pub seen_in : List ℕ → ℕ → List ℕ → ℕ → ℕ → Sight
seen_in source number line onset n = seen_beside (numbered_line source number) line onset n
