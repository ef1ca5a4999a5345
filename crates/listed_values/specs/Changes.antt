-- What becomes of the tokens of a text where lists of initialisers are values, or are set by the first step.
use Rattle.std.specs.Prelude.{ℕ, ◌+◌, ◌*◌, Bool, false, not, ◌&&◌, ◌==◌, nat_lt, nat_le, if◌then◌else◌, List, [], ◌∷◌}
use Rattle.pml_token.specs.declared.token.Kind.{Kind}
use Rattle.pml_token.specs.declared.token.Kind.TheVariants as kind
use Rattle.prepare.specs.Written.{Written}
use Rattle.declared_steps.specs.Stages.{begins_with}
use Rattle.listed_values.specs.declared.course.ListMode.{ListMode}
use Rattle.listed_values.specs.declared.course.ListMode.TheVariants as mode
use Rattle.listed_values.specs.declared.course.Within.{Within}
use Rattle.listed_values.specs.declared.course.ListCourse.{ListCourse}
use Rattle.listed_values.specs.declared.changes.ValueChange.{ValueChange}
use Rattle.listed_values.specs.declared.changes.ValueChange.TheVariants as change
use Rattle.prepare.specs.Changed.{Changed, changed}
use Rattle.listed_values.specs.Courses.{start, behind, is_first}

-- whether a token of a list of n values does not stay, where so many tokens are still to come: of one value the first stays, and `=` does
abbrev pub is_blank : ListMode → ℕ → ℕ → Bool
is_blank mode.Left n left = false
is_blank mode.Same n left = nat_le left (n * 2 + 1) && not (left == n * 2)
is_blank mode.Set n left = nat_le left (n * 2 + 2)

-- a `;` stands for the `}`, unless one stands behind it
abbrev pub change_of_blank : Bool → List Written → ValueChange
change_of_blank is_last ts = if is_last && not (begins_with kind.Semicolon ts) then change.Ended else change.Blanked

abbrev pub change_within : Within → List Written → ValueChange
change_within w ts = if is_blank w.mode w.count w.left then change_of_blank (w.left == 1) ts else change.Kept

abbrev pub change_at : ListCourse → Bool → Kind → List ℕ → List Written → ValueChange
change_at c is_set k t ts =
    if nat_lt 0 c.within.left then change_within c.within ts else (if is_set && is_first c k t ts then change.Headed else change.Kept)

abbrev pub changes_by : ListCourse → Bool → List Written → List (Changed ValueChange)
changes_by c is_set [] = []
changes_by c is_set (t ∷ ts) =
    changed t (change_at c is_set t.kind t.token ts)
    ∷ changes_by (behind c is_set t.kind t.token ts) is_set ts

-- what becomes of the tokens of a text, where lists of different values are set by the first step or stay
abbrev pub changes : Bool → List Written → List (Changed ValueChange)
changes is_set ts = changes_by start is_set ts
