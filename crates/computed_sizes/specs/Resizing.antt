-- A text in which sizes are numbers.
use Rattle.std.specs.Prelude.{ℕ, List, ◌++◌, map}
use Rattle.std.specs.List.{flat_map}
use Rattle.std.specs.Fmt.{decimal}
use Rattle.profile.specs.Characters.{space}
use Rattle.prepare.specs.Stretches.{stretches}
use Rattle.computed_sizes.specs.declared.changes.SizeChange.{SizeChange}
use Rattle.computed_sizes.specs.declared.changes.SizeChange.TheVariants as change
use Rattle.prepare.specs.Changed.{Changed}
use Rattle.computed_sizes.specs.Sized.{changes}

-- a blank in place of each byte
abbrev pub blanks : List ℕ → List ℕ
blanks t = map (λ b. space) t

abbrev pub digits : ℕ → List ℕ
digits n = decimal n

abbrev pub shown : SizeChange → List ℕ → List ℕ
shown change.Kept t = t
shown (change.Number n) t = digits n
shown change.Blanked t = blanks t

abbrev pub one : Changed SizeChange → List ℕ
one c = c.gap ++ shown c.change c.token

abbrev pub written : List (Changed SizeChange) → List ℕ
written cs = flat_map one cs

-- a text in which sizes that are expressions of numbers are these numbers
abbrev pub resized : List ℕ → List ℕ
resized text = written (changes (stretches text))
