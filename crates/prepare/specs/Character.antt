-- Character constants, as Spin has them: one byte between `'`, or a letter behind `\`.
use Rattle.std.specs.Prelude.{ℕ, ◌+◌, ◌/◌, ◌%◌, Bool, ◌&&◌, ◌==◌, nat_le, nat_lt, if◌then◌else◌, List, [], ◌∷◌, ◌++◌}
use lib.Chars.{codes}
use Rattle.profile.specs.Characters.{tab, line_feed, carriage_return, zero_digit, backslash}

-- b'\''
abbrev pub apostrophe : ℕ
apostrophe = 39

-- a byte that is seen, from the blank to `~`
abbrev pub is_seen : ℕ → Bool
is_seen b = nat_le 32 b && nat_le b 126

-- n where the text begins with a `'`, and else 0
abbrev pub ended : ℕ → List ℕ → ℕ
ended n [] = 0
ended n (b ∷ q) = if b == apostrophe then n else 0

-- n where a byte that is seen stands before a `'`, and else 0
abbrev pub seen_and_ended : ℕ → List ℕ → ℕ
seen_and_ended n [] = 0
seen_and_ended n (b ∷ q) = if is_seen b then ended n q else 0

-- of what is behind the first `'`: a letter behind a backslash, or a byte
abbrev pub length_behind : List ℕ → ℕ
length_behind [] = 0
length_behind (b ∷ []) = 0
length_behind (b ∷ c ∷ q) = if b == backslash then seen_and_ended 4 (c ∷ q) else seen_and_ended 3 (b ∷ c ∷ q)

-- how many bytes the character constant at the front of a text has, or 0 where none stands there
abbrev pub character_length : List ℕ → ℕ
character_length [] = 0
character_length (b ∷ q) = if b == apostrophe then length_behind q else 0

-- what a letter behind a backslash stands for: `\f`, `\n`, `\r` and `\t` are other bytes, and each other letter is itself
abbrev pub escaped : ℕ → ℕ
escaped b =
    if b == 102 then 12
    else (if b == 110 then line_feed
    else (if b == 114 then carriage_return
    else (if b == 116 then tab
    else b)))

-- the byte that a constant stands for, from behind its `'` on
abbrev pub value_behind : List ℕ → ℕ
value_behind [] = 0
value_behind (b ∷ []) = b
value_behind (b ∷ c ∷ q) = if b == backslash then escaped c else b

abbrev pub value : List ℕ → ℕ
value [] = 0
value (b ∷ q) = value_behind q

-- the digits of a number below 1000
abbrev pub digits : ℕ → List ℕ
digits n =
    (if nat_lt n 100 then [] else (zero_digit + n / 100) ∷ [])
    ++ ((if nat_lt n 10 then [] else (zero_digit + (n / 10) % 10) ∷ []) ++ (zero_digit + n % 10) ∷ [])

-- what stands in place of a constant: its number, between blanks
abbrev pub number : List ℕ → List ℕ
number t = codes " " ++ (digits (value t) ++ codes " ")
