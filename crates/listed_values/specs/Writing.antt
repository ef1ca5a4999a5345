-- A text in which lists of initialisers are values, or are set by the first step.
use Rattle.std.specs.Prelude.{ℕ, Bool, true, false, ◌&&◌, nat_lt, if◌then◌else◌, List, [], ◌++◌, length}
use Rattle.std.specs.List.{flat_map}
use lib.Chars.{codes}
use Rattle.pml_token.specs.declared.token.Kind.TheVariants as kind
use Rattle.pml_token.specs.Word.{same_kind}
use Rattle.prepare.specs.declared.TheConstants.{MOST_BYTES}
use Rattle.prepare.specs.Written.{Written}
use Rattle.prepare.specs.Stretches.{stretches}
use Rattle.listed_values.specs.declared.changes.ValueChange.{ValueChange}
use Rattle.listed_values.specs.declared.changes.ValueChange.TheVariants as change
use Rattle.prepare.specs.Changed.{Changed}
use Rattle.listed_values.specs.Changes.{changes}
use Rattle.listed_values.specs.Settings.{setup, sets}

-- the step that sets elements
abbrev pub step : List ℕ → List ℕ
step set = codes "d_step { " ++ (set ++ codes "}; ")

abbrev pub shown : List ℕ → ValueChange → List ℕ → List ℕ
shown set change.Kept t = t
shown set change.Blanked t = codes " "
shown set change.Ended t = codes ";"
shown set change.Headed t = step set ++ t

abbrev pub one : List ℕ → Changed ValueChange → List ℕ
one set c = c.gap ++ shown set c.change c.token

abbrev pub written : List ℕ → List (Changed ValueChange) → List ℕ
written set cs = flat_map (one set) cs

abbrev pub is_blanked : ValueChange → Bool
is_blanked change.Blanked = true
is_blanked _ = false

-- whether a token is the `=` of a list that a step sets
abbrev pub is_sign : Changed ValueChange → Bool
is_sign c = is_blanked c.change && same_kind c.kind kind.Assign

abbrev pub unless_long : List ℕ → List ℕ → List ℕ
unless_long made text = if nat_lt MOST_BYTES (length made) then text else made

abbrev pub valued_of : List Written → List ℕ
valued_of ts = written (setup ts).set (changes (sets (setup ts)) ts)

-- a text in which a list of one value is that value, and the first step sets the elements of the other ones if it may; the text as it is where that
-- would be too long
abbrev pub valued : List ℕ → List ℕ
valued text = unless_long (valued_of (stretches text)) text
