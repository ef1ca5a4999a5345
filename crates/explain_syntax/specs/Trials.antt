-- What is told by a token in another one's place, and of brackets that do not fit.
use Rattle.std.specs.Prelude.{ℕ, ◌-◌, Bool, true, false, if◌then◌else◌, List, length, slice_get, Option, Some, None}
use Rattle.pml_token.specs.declared.token.Kind.{Kind}
use Rattle.pml_token.specs.declared.token.Kind.TheVariants as kind
use Rattle.pml_token.specs.Word.{Word}
use Rattle.explain_cause.specs.Places.{kind_at, fits}
use Rattle.explain_cause.specs.declared.foreign.Foreign.{Foreign}
use Rattle.explain_cause.specs.declared.foreign.Foreign.TheVariants as foreign
use Rattle.explain_syntax.specs.Beside.{is_choice, is_one_too_many}
use Rattle.explain_syntax.specs.declared.tried.Trial.{Trial}
use Rattle.explain_syntax.specs.declared.tried.Trial.TheVariants as trial
use Rattle.explain_syntax.specs.declared.unclosed.Brackets.{Brackets}
use Rattle.explain_syntax.specs.declared.unclosed.Brackets.TheVariants as brackets

-- an `if` or a `do` is open
abbrev pub is_in_choice : List Word → Option ℕ → Bool
is_in_choice ts None = false
is_in_choice ts (Some at) = is_choice (kind_at ts at)

-- another sign for a `,` or a `:`
abbrev pub is_sign : Trial → Bool
is_sign trial.OptionFor = true
is_sign trial.SemicolonFor = true
is_sign trial.Untold = true
is_sign t = false

-- a sign less, or a `,` more
abbrev pub is_less : Trial → Bool
is_less trial.Nothing = true
is_less trial.Comma = true
is_less trial.Untold = true
is_less t = false

-- another token
abbrev pub is_change : Trial → Bool
is_change trial.Run = true
is_change trial.Name = true
is_change trial.OptionFor = true
is_change trial.SemicolonFor = true
is_change t = is_less t

-- what a token closes, of the brackets that are open: of none it is one too many, else it fits the innermost or another one
abbrev pub by_innermost : List Word → ℕ → Option ℕ → Brackets
by_innermost ts at None = brackets.Nothing
by_innermost ts at (Some opener) = if fits ts opener at then brackets.Right else brackets.Other opener

abbrev pub closed_by : List Word → List ℕ → ℕ → Brackets
closed_by ts openers at =
    if is_one_too_many ts openers at then brackets.Nothing else by_innermost ts at (slice_get openers (length openers - 1))

-- `main` in another language
abbrev pub is_main : Foreign → Bool
is_main foreign.Main = true
is_main f = false

-- a number in front of a `:` is the front of a label, else it is written as elsewhere
abbrev pub joined_form : Kind → Foreign
joined_form kind.Colon = foreign.NameBegins
joined_form k = foreign.Digits
