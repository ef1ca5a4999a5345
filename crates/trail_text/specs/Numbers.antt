-- Numbers in digits.
use Rattle.std.specs.Prelude.{◌≡◌, ◌+◌, ◌-◌, ◌*◌, ◌^◌, ℕ, min, leb, nat_eq, ◌&&◌, List, take, drop, Bool, true, Option, Some, None, if◌then◌else◌}
use Rattle.std.specs.List.{fold, list_all, prefix_len}

-- a digit
abbrev pub is_digit : ℕ → Bool
is_digit b = leb 48 b && leb b 57

-- a number with a digit more behind it, or the greatest there is
abbrev pub digit_behind : ℕ → ℕ → ℕ
digit_behind n b = min (min (n * 10) (2 ^ 64 - 1) + (b - 48)) (2 ^ 64 - 1)

-- the number of these digits
abbrev pub number : List ℕ → ℕ
number digits = fold digit_behind 0 digits

-- the number that stands first in a text, if one does
abbrev pub first_number : List ℕ → Option ℕ
first_number text =
    if nat_eq (prefix_len is_digit text) 0 then None else Some (number (take (prefix_len is_digit text) text))

-- a text ends in digits of this number
abbrev pub IsLastNumber : List ℕ → ℕ → Type 0
IsLastNumber text n = (at : ℕ) × (list_all is_digit (drop at text) ≡ true) × (n ≡ number (drop at text))
