-- What becomes of the tokens of a text where declarations are steps.
use Rattle.std.specs.Prelude.{ℕ, Bool, true, false, not, ◌&&◌, ◌||◌, ◌==◌, if◌then◌else◌, List, [], ◌∷◌}
use Rattle.std.specs.Str.{bytes_eq}
use lib.Chars.{codes}
use Rattle.pml_token.specs.declared.token.Kind.{Kind}
use Rattle.pml_token.specs.declared.token.Kind.TheVariants as kind
use Rattle.pml_token.specs.Word.{same_kind}
use Rattle.prepare.specs.Written.{Written}
use Rattle.prepare.specs.Sizes as sizes
use Rattle.declared_steps.specs.declared.stage.PendingStep.{PendingStep}
use Rattle.declared_steps.specs.declared.stage.PendingStep.TheVariants as item
use Rattle.declared_steps.specs.declared.stage.DeclarationStage.{DeclarationStage}
use Rattle.declared_steps.specs.declared.changes.StepChange.{StepChange}
use Rattle.declared_steps.specs.declared.changes.StepChange.TheVariants as change
use Rattle.declared_steps.specs.SteppedToken.{SteppedToken}
use Rattle.declared_steps.specs.Stages.{ends, item_behind, is_first, behind, start}

abbrev pub is_value : PendingStep → Bool
is_value item.Valued = true
is_value _ = false

-- a channel gets its value, but for one that is made there; without one it is left
abbrev pub change_of_channel : Kind → Bool → PendingStep → StepChange
change_of_channel k is_array i = if same_kind k kind.Assign && is_value i then change.Assigned is_array else change.Kept

abbrev pub is_name : List ℕ → Written → Bool
is_name name t = same_kind t.kind kind.Name && bytes_eq t.token name

-- whether a name stands before the end of a statement
abbrev pub reads : List ℕ → List Written → Bool
reads name [] = false
reads name (t ∷ ts) = if ends t.kind then false else (if is_name name t then true else reads name ts)

-- whether a value that is not made of the name is assigned here
abbrev pub is_new : List ℕ → List Written → Bool
is_new name [] = false
is_new name (t ∷ ts) = same_kind t.kind kind.Assign && not (reads name ts)

-- whether `[0]` stands before what assigns such a value
abbrev pub is_first_new : List ℕ → List Written → Bool
is_first_new name (o ∷ n ∷ c ∷ ts) = (same_kind o.kind kind.OpenBracket && (bytes_eq n.token (codes "0") && same_kind c.kind kind.CloseBracket)) && is_new name ts
is_first_new name _ = false

-- whether a value that is not made of the name is assigned to it, or to its first element, at the front of stretches
abbrev pub is_set : Bool → List ℕ → List Written → Bool
is_set is_array name [] = false
is_set is_array name (t ∷ ts) = is_name name t && (if is_array then is_first_new name ts else is_new name ts)

-- whether a `for` stands here, which assigns a number to the name at once
abbrev pub is_counted : List ℕ → List Written → Bool
is_counted name (w ∷ o ∷ t ∷ c ∷ n ∷ d ∷ ts) =
    (same_kind w.kind kind.For && same_kind o.kind kind.OpenParen)
    && (is_name name t && (same_kind c.kind kind.Colon && (same_kind n.kind kind.Number && same_kind d.kind kind.DotDot)))
is_counted name _ = false

abbrev pub is_given : Bool → List ℕ → List Written → Bool
is_given is_array name ts = is_set is_array name ts || is_counted name ts

-- a declaration without a value ends with 0, unless a value follows it at once
abbrev pub change_of_end : Bool → Kind → List ℕ → List Written → StepChange
change_of_end is_array k name ts = if same_kind k kind.Semicolon && is_given is_array name ts then change.Kept else change.Ended is_array

-- a variable gets its value, or 0, and so does the first element of an array
abbrev pub change_of_variable : Bool → Kind → List ℕ → List Written → StepChange
change_of_variable is_array k name ts =
    if same_kind k kind.Assign then change.Assigned is_array
    else (if same_kind k kind.Comma then change.Cleared is_array
    else (if ends k then change_of_end is_array k name ts else change.Kept))

-- what becomes of a token that stands in no brackets of the declaration
abbrev pub change_of : PendingStep → Kind → List ℕ → List Written → StepChange
change_of item.Nothing k name ts = change.Kept
change_of (item.Named is_array is_channel) k name ts =
    if is_channel then change_of_channel k is_array (item_behind (item.Named is_array is_channel) k ts) else change_of_variable is_array k name ts
change_of item.Valued k name ts = if same_kind k kind.Comma then change.Parted else change.Kept

abbrev pub change_at : DeclarationStage → Kind → List ℕ → List Written → StepChange
change_at s k name ts = if s.reading.depth == 0 then change_of s.item k name ts else change.Kept

abbrev pub either : Bool → List ℕ → List ℕ → List ℕ
either b one other = if b then one else other

-- what becomes of the rest of the stretches, where `last` is the token before, and `name` and `word` are the name that was declared last and its type
abbrev pub changes_by : DeclarationStage → List ℕ → List ℕ → List ℕ → List Written → List SteppedToken
changes_by s last name word [] = []
changes_by s last name word (t ∷ ts) =
    record { gap = t.gap; token = t.token; change = change_at s t.kind name ts; name = name; word = word }
    ∷ changes_by (behind s t.kind t.token ts) t.token (either (sizes.declares s.reading t.kind) t.token name) (either (is_first s t.kind) last word) ts

-- what becomes of the tokens of a text where declarations are steps
abbrev pub changes : List Written → List SteppedToken
changes ts = changes_by start [] [] [] ts
