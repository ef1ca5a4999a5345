-- The markers that a preprocessor leaves: `# LINE "FILE"`.
use Rattle.std.specs.Prelude.{ℕ, ◌+◌, ◌-◌, ◌*◌, Bool, not, ◌==◌, nat_eq, nat_le, nat_lt, if◌then◌else◌, List, [], ◌∷◌, take, drop, fold, min, Option, Some, None}
use Rattle.std.specs.List.{prefix_len, starts_with}
use lib.Chars.{codes}
use Rattle.profile.specs.Characters.{hash, quote, zero_digit, is_digit}
use Rattle.promela_text.specs.Tokens.{is_space}
use Rattle.prepare.specs.declared.markers.TheConstants.{MOST_LINE}
use Rattle.prepare.specs.Marker.{Marker}

-- the number that digits spell, or one that is too large for a line
abbrev pub number : List ℕ → ℕ
number digits = fold (λ n d. min (10 * n + (d - zero_digit)) (MOST_LINE + 1)) 0 digits

abbrev pub behind_spaces : List ℕ → List ℕ
behind_spaces q = drop (prefix_len is_space q) q

abbrev pub is_no_quote : ℕ → Bool
is_no_quote b = not (b == quote)

-- a marker of this line, from the quote before its file's name on
abbrev pub named : ℕ → List ℕ → Option Marker
named line [] = None
named line (b ∷ q) = if b == quote then Some (record { line = line; file = take (prefix_len is_no_quote q) q }) else None

-- from behind `#` or `#line`
abbrev pub numbered_marker : List ℕ → Option Marker
numbered_marker q =
    let n = prefix_len is_digit q in
    let line = number (take n q) in
    if nat_lt 0 n then (if nat_le line MOST_LINE then named line (behind_spaces (drop n q)) else None) else None

abbrev pub behind_word : List ℕ → List ℕ
behind_word q = if starts_with nat_eq q (codes "line") then drop 4 q else q

-- what a line says, if it is a marker
abbrev pub marker : List ℕ → Option Marker
marker [] = None
marker (b ∷ q) = if b == hash then numbered_marker (behind_spaces (behind_word q)) else None
