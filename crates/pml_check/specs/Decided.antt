-- What the parts of the search answer.
use Rattle.std.specs.Prelude.{◌≡◌, ◌⊎◌, Bool, true, false, List, [], ◌∷◌, Option, Some, None, IsSomeAnd, IfSome}
use Rattle.diagnostics.specs.declared.refusal.Refusal.{Refusal}
use Rattle.diagnostics.specs.declared.refusal.Refusal.TheVariants as r
use Rattle.promela_model.specs.declared.mark.Mark.{Mark}
use Rattle.promela_model.specs.Decided as marks
use Rattle.check_conditions.specs.Fitted as fitted
use Rattle.promela_model.specs.declared.condition.Condition.{Condition}
use Rattle.pml_program.specs.declared.program.Proctype.{Proctype}
use Rattle.pml_program.specs.declared.program.Program.{Program}
use Rattle.promela_refusals.specs.Judged.{SomeBody, BreaksModel, AppliesTo}
use Rattle.pml_check.specs.Fitted.{EachBody, HasBadStart, HasGoodStart, KeepsModel, FitsTo}
use Rattle.promela_process.specs.Control.{BadFirstPoint, Circle, FirstPointsFit, SettlesEverywhere}

abbrev pub DecidesCircles : Bool → List Proctype → Type 0
DecidesCircles true ps = SomeBody Circle ps
DecidesCircles false ps = EachBody SettlesEverywhere ps

abbrev pub DecidesSteps : Bool → List Proctype → Type 0
DecidesSteps true ps = SomeBody BadFirstPoint ps
DecidesSteps false ps = EachBody FirstPointsFit ps

abbrev pub DecidesCondition : Bool → Option Condition → List Mark → Type 0
DecidesCondition true x ms = IsSomeAnd x (λ c. marks.AppliesToMarks c ms)
DecidesCondition false x ms = IfSome x (λ c. fitted.FitsMarks c ms)

abbrev pub DecidesStart : Bool → Program → Type 0
DecidesStart true p = HasBadStart p
DecidesStart false p = HasGoodStart p

abbrev pub DecidesModel : Bool → Refusal → Program → Type 0
DecidesModel true x p = BreaksModel x p
DecidesModel false x p = KeepsModel x p

abbrev pub Decides : Bool → Refusal → List Mark → Program → Type 0
Decides true x ms p = AppliesTo x ms p
Decides false x ms p = FitsTo x ms p

-- The refusals that are judged on the tree, in the order of their numbers. No clause of a public function of the crate cites it.
abbrev pub all_judged : List Refusal
all_judged =
    r.NameTwice ∷ r.UnknownName ∷ r.WrongKind ∷ r.ArgumentCount ∷ r.Label ∷ r.BreakOutsideDo ∷ r.DStep ∷ r.CircleOfGotos ∷ r.NumberOutOfRange
    ∷ r.TooManyCells ∷ r.NoProcess ∷ r.TooManyAtStart ∷ r.Initialiser ∷ []

-- those that are judged before the first state
abbrev pub judged_before_start : List Refusal
judged_before_start =
    r.NameTwice ∷ r.UnknownName ∷ r.WrongKind ∷ r.ArgumentCount ∷ r.Label ∷ r.BreakOutsideDo ∷ r.DStep ∷ r.CircleOfGotos ∷ r.NumberOutOfRange
    ∷ r.TooManyCells ∷ r.NoProcess ∷ r.TooManyAtStart ∷ []

abbrev pub FitsAll : List Refusal → List Mark → Program → Type 0
FitsAll [] ms p = Unit {0}
FitsAll (x ∷ xs) ms p = FitsTo x ms p × FitsAll xs ms p

-- the first of these that applies: those before it are fitted
abbrev pub IsFirst : List Refusal → List Mark → Program → Refusal → Type 0
IsFirst [] ms p x = ⊥
IsFirst (y ∷ ys) ms p x = ((y ≡ x) × AppliesTo x ms p) ⊎ (FitsTo y ms p × IsFirst ys ms p x)

-- the first of these that applies, or none does
abbrev pub Finds : List Refusal → List Mark → Program → Option Refusal → Type 0
Finds xs ms p None = FitsAll xs ms p
Finds xs ms p (Some x) = IsFirst xs ms p x
