-- Parts of a text.
use Rattle.std.specs.Prelude.{◌≡◌, if◌then◌else◌, take, drop, length, codes, ◌||◌, ◌&&◌, ℕ, leb, nat_eq, List, [], ◌∷◌, Bool, true, false, Some}
use Rattle.std.specs.List.{list_any, slice_get}
use Rattle.std.specs.Str.{bytes_eq}

-- a blank, a tab or a carriage return
abbrev pub is_blank : ℕ → Bool
is_blank b = nat_eq b 32 || (nat_eq b 9 || nat_eq b 13)

-- a text without the blanks before it
abbrev pub behind_blanks : List ℕ → List ℕ
behind_blanks [] = []
behind_blanks (b ∷ bs) = if is_blank b then behind_blanks bs else b ∷ bs

-- a word stands first in a text
abbrev pub leads : List ℕ → List ℕ → Bool
leads text word = bytes_eq (take (length word) text) word

-- a text has a word
abbrev pub has : List ℕ → List ℕ → Bool
has [] word = false
has (b ∷ bs) word = leads (b ∷ bs) word || has bs word

-- a text begins so
abbrev pub IsFront : List ℕ → List ℕ → Type 0
IsFront part whole = (n : ℕ) × (part ≡ take n whole)

-- a text ends so
abbrev pub IsEnd : List ℕ → List ℕ → Type 0
IsEnd part whole = (n : ℕ) × (part ≡ drop n whole)

-- a text has a word, with these parts before it and behind it
abbrev pub IsParted : List ℕ → List ℕ → List ℕ → List ℕ → Type 0
IsParted text word before behind =
    (n : ℕ) × (before ≡ take n text) × (bytes_eq (take (length word) (drop n text)) word ≡ true)
    × (behind ≡ drop (length word) (drop n text))

-- this stands before a byte of a text
abbrev pub IsBefore : List ℕ → ℕ → List ℕ → Type 0
IsBefore text byte before = (n : ℕ) × (before ≡ take n text) × (slice_get text n ≡ Some byte)

-- a byte of words and numbers
abbrev pub is_of_word : ℕ → Bool
is_of_word b = nat_eq b 95 || ((leb 97 b && leb b 122) || ((leb 65 b && leb b 90) || (leb 48 b && leb b 57)))

-- a byte that no spelling has: a blank, a parenthesis, a comma, a quotation mark, a backslash
abbrev pub is_left_out : ℕ → Bool
is_left_out b = list_any (nat_eq b) (codes " \t\r(),\"'\\")

-- a number begins so
abbrev pub is_number : List ℕ → Bool
is_number [] = false
is_number (b ∷ bs) = leb 48 b && leb b 57
