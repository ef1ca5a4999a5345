-- A text in which one name is divided.
use Rattle.std.specs.Prelude.{ℕ, suc, zero, ◌+◌, Bool, ◌&&◌, ◌==◌, nat_lt, nat_le, min, max, if◌then◌else◌, List, [], ◌∷◌, ◌++◌}
use Rattle.std.specs.List.{flat_map}
use Rattle.std.specs.Fmt.{decimal}
use lib.Chars.{codes}
use Rattle.prepare.specs.Written.{Written}
use Rattle.prepare.specs.Stretches.{stretches}
use Rattle.names_apart.specs.declared.writing.TheConstants.{MOST_JOINT}
use Rattle.names_apart.specs.declared.changes.NameChange.{NameChange}
use Rattle.names_apart.specs.declared.changes.NameChange.TheVariants as change
use Rattle.prepare.specs.Changed.{Changed}
use Rattle.names_apart.specs.Scopes.{more}
use Rattle.names_apart.specs.Tallies.{Tallied, tallied, is_divided}
use Rattle.names_apart.specs.Changes.{changes}

abbrev pub underscore : ℕ
underscore = 95

abbrev pub is_digit : ℕ → Bool
is_digit b = nat_le 48 b && nat_le b 57

-- how many underscores stand directly before what is behind a byte
abbrev pub run_behind : ℕ → ℕ → ℕ
run_behind run b = if b == underscore then min (run + 1) MOST_JOINT else 0

abbrev pub most_behind : ℕ → ℕ → ℕ → ℕ
most_behind most run b = if is_digit b then max most run else most

abbrev pub longest_by : ℕ → ℕ → List ℕ → ℕ
longest_by most run [] = most
longest_by most run (b ∷ q) = longest_by (most_behind most run b) (run_behind run b) q

-- how many underscores stand in a row before a digit in a text at most
abbrev pub longest : List ℕ → ℕ
longest text = longest_by 0 0 text

abbrev pub underscores : ℕ → List ℕ
underscores zero = []
underscores (suc n) = underscores n ++ underscore ∷ []

-- what stands between a name and its number: one underscore more than stand before a digit anywhere in the text
abbrev pub joint : List ℕ → List ℕ
joint text = underscores (suc (longest text))

-- the name with a number; the first keeps its name
abbrev pub numbered : List ℕ → List ℕ → ℕ → List ℕ
numbered name joint n = if nat_lt n 2 then name else name ++ (joint ++ decimal n)

abbrev pub divider : Bool → List ℕ
divider is_front = if is_front then [] else codes ", "

-- names that are passed to an inline, so many from the first on
abbrev pub passed : List ℕ → List ℕ → ℕ → Bool → ℕ → List ℕ
passed name joint first is_bare zero = []
passed name joint first is_bare (suc n) = passed name joint first is_bare n ++ (divider (is_bare && n == 0) ++ numbered name joint (more first n))

abbrev pub shown : List ℕ → List ℕ → NameChange → List ℕ → List ℕ
shown name joint change.Kept t = t
shown name joint (change.Named n) t = numbered name joint n
shown name joint (change.Passed first count is_bare) t = passed name joint first is_bare count ++ t

abbrev pub one : List ℕ → List ℕ → Changed NameChange → List ℕ
one name joint c = c.gap ++ shown name joint c.change c.token

abbrev pub written : List ℕ → List ℕ → List (Changed NameChange) → List ℕ
written name joint cs = flat_map (one name joint) cs

-- what is made of stretches where the name is divided, if it is
abbrev pub divided_of : List ℕ → List ℕ → List Written → Tallied → List ℕ → List ℕ
divided_of name joint ts tally text = if is_divided tally.most tally.is_left then written name joint (changes name tally.table ts) else text

-- a text in which a name is divided, if some body declares it several times
abbrev pub divided : List ℕ → List ℕ → List ℕ → List ℕ
divided name joint text = divided_of name joint (stretches text) (tallied name (stretches text)) text
