-- Where a run of a session is to stop, in the words of a line.
use Rattle.std.specs.Prelude.{◌≡◌, ◌<◌, ◌^◌, ℕ, nat_eq, ◌||◌, List, length, codes, Option, Some, None, ⊤, if◌then◌else◌}
use Rattle.std.specs.Borrow.{Bor}
use Rattle.std.specs.Str.{bytes_eq}
use Rattle.std.specs.Str.Parse.{IsNumeral, digits_value, without_leading_plus}
use Rattle.view_commands.specs.declared.goals.Goal.{Goal}
use Rattle.view_commands.specs.declared.goals.Goal.TheVariants as goal

-- the path of the cell that is asked of, if one is
abbrev pub path : Goal → Option (Bor (List ℕ))
path (goal.Line k) = None
path (goal.Equal p v) = Some p
path (goal.Other p v) = Some p
path (goal.Written p) = Some p

-- a word is the number of a line: of 32 bits, in digits, behind a plus or not
abbrev pub IsLineNumber : List ℕ → Type 0
IsLineNumber word = let digits = without_leading_plus word in IsNumeral 10 digits × (digits_value 10 digits < 2 ^ 32)

-- the line with this number, or none
abbrev pub IsAtLine : List ℕ → Option Goal → Type 0
IsAtLine word None = IsLineNumber word → ⊥
IsAtLine word (Some (goal.Line k)) = IsLineNumber word × (digits_value 10 (without_leading_plus word) ≡ k)
IsAtLine word _ = ⊥

-- the cell with this path has this value, or another
abbrev pub compared : Bor (List ℕ) → List ℕ → Bor (List ℕ) → Option Goal
compared p sign v =
    if nat_eq (length p.now) 0 || nat_eq (length v.now) 0 then None
    else if bytes_eq sign (codes "==") then Some (goal.Equal p v)
    else if bytes_eq sign (codes "!=") then Some (goal.Other p v)
    else None

-- neither a path nor a value that are compared is empty
abbrev pub IsWhole : Goal → Type 0
IsWhole (goal.Equal p v) = (0 < length p.now) × (0 < length v.now)
IsWhole (goal.Other p v) = (0 < length p.now) × (0 < length v.now)
IsWhole _ = ⊤
