-- A text in which declarations that are steps are assignments.
use Rattle.std.specs.Prelude.{ℕ, Bool, true, false, nat_lt, if◌then◌else◌, List, [], ◌++◌, length}
use Rattle.std.specs.List.{flat_map}
use lib.Chars.{codes}
use Rattle.prepare.specs.declared.TheConstants.{MOST_BYTES}
use Rattle.prepare.specs.Stretches.{stretches}
use Rattle.declared_steps.specs.declared.changes.StepChange.{StepChange}
use Rattle.declared_steps.specs.declared.changes.StepChange.TheVariants as change
use Rattle.declared_steps.specs.SteppedToken.{SteppedToken}
use Rattle.declared_steps.specs.Changes.{changes}

-- what is assigned, behind a separator: a name, or the first element of an array, as in Spin
abbrev pub target : List ℕ → Bool → List ℕ
target name is_array = codes "; " ++ (name ++ (if is_array then codes "[0]" else []))

-- what stands before the gap, on the line where the name or its size ends
abbrev pub front : List ℕ → StepChange → List ℕ
front name (change.Assigned is_array) = target name is_array
front name (change.Cleared is_array) = target name is_array ++ codes " = 0"
front name (change.Ended is_array) = target name is_array ++ codes " = 0"
front name _ = []

-- what stands behind the gap: a token, or a new declaration in place of a comma
abbrev pub shown : List ℕ → StepChange → List ℕ → List ℕ
shown word (change.Cleared is_array) t = codes "; " ++ word
shown word change.Parted t = codes "; " ++ word
shown word _ t = t

abbrev pub is_kept : StepChange → Bool
is_kept change.Kept = true
is_kept _ = false

abbrev pub one : SteppedToken → List ℕ
one c = front c.name c.change ++ (c.gap ++ shown c.word c.change c.token)

abbrev pub written : List SteppedToken → List ℕ
written cs = flat_map one cs

abbrev pub unless_long : List ℕ → List ℕ → List ℕ
unless_long made text = if nat_lt MOST_BYTES (length made) then text else made

-- a text in which declarations that are steps are assignments, unless that is too long
abbrev pub stepped : List ℕ → List ℕ
stepped text = unless_long (written (changes (stretches text))) text
