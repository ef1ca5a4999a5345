-- A text in which the names of an `mtype` have one comma between them.
use Rattle.std.specs.Prelude.{ℕ, nat_lt, if◌then◌else◌, List, [], ◌++◌, length}
use Rattle.std.specs.List.{flat_map}
use lib.Chars.{codes}
use Rattle.prepare.specs.declared.TheConstants.{MOST_BYTES}
use Rattle.prepare.specs.Stretches.{stretches}
use Rattle.mtype_commas.specs.declared.changes.CommaChange.{CommaChange}
use Rattle.mtype_commas.specs.declared.changes.CommaChange.TheVariants as change
use Rattle.prepare.specs.Changed.{Changed}
use Rattle.mtype_commas.specs.Changes.{changes}

-- what stands before the gap, where the last name ends
abbrev pub front : CommaChange → List ℕ
front change.Parted = codes ","
front _ = []

abbrev pub shown : CommaChange → List ℕ → List ℕ
shown change.Blanked t = codes " "
shown _ t = t

abbrev pub one : Changed CommaChange → List ℕ
one c = front c.change ++ (c.gap ++ shown c.change c.token)

abbrev pub written : List (Changed CommaChange) → List ℕ
written cs = flat_map one cs

abbrev pub unless_long : List ℕ → List ℕ → List ℕ
unless_long made text = if nat_lt MOST_BYTES (length made) then text else made

-- a text in which the names of an `mtype` have one comma between them, unless that is too long
abbrev pub punctuated : List ℕ → List ℕ
punctuated text = unless_long (written (changes (stretches text))) text
