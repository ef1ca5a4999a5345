-- A refusal does not apply to what fits it.
use Rattle.std.proofs.Common.{◌≡◌, Bool, true, false, arith, List, Some, None, sym, ◌∙◌, inl, inr, Option, Result, Ok, Err}
use Rattle.std.specs.Prelude.{IsSomeAnd, IfSome}
use Rattle.diagnostics.specs.declared.refusal.Refusal.{Refusal}
use Rattle.diagnostics.specs.declared.refusal.Refusal.TheVariants as r
use Rattle.promela_model.specs.declared.mark.Mark.{Mark}
use Rattle.promela_model.specs.declared.condition.Condition.{Condition}
use Rattle.promela_model.specs.Decided as marks
use Rattle.promela_model.specs.declared.condition.Condition.TheVariants as condition
use Rattle.promela_model.specs.Decided.{Somewhere, broken, crosses_step}
use Rattle.check_conditions.specs.Fitted.{Nowhere, FitsMarks}
use Rattle.check_conditions.specs.Step.{begins_there, breaks_loose}
use Rattle.pml_program.specs.declared.program.Seq.{Seq}
use Rattle.promela_process.specs.Control.{BadFirstPoint, FirstPointsFit, Circle, SettlesEverywhere}
use Rattle.pml_control.proofs.Settling.{circle_not}
use Rattle.pml_program.specs.declared.program.Proctype.{Proctype}
use Rattle.pml_program.specs.declared.program.Program.{Program}
use Rattle.promela_refusals.specs.Judged.{condition_of, BreaksModel, SomeBody, AppliesTo}
use Rattle.pml_check.specs.Fitted.{KeepsModel, EachBody, HasBadStart, HasGoodStart, FitsTo}

some_none : (p : List Mark → Mark → Bool) (ms : List Mark) → Somewhere p ms → Nowhere p ms → ⊥
some_none p ms h f = let e : true ≡ false = sym h.3 ∙ f h.0 h.1 h.2 in absurd cc

marks_apart : (x : Condition) (ms : List Mark) → marks.AppliesToMarks x ms → FitsMarks x ms → ⊥
marks_apart condition.Twice ms a f = some_none (broken condition.Twice ms) ms a f
marks_apart condition.Unknown ms a f = some_none (broken condition.Unknown ms) ms a f
marks_apart condition.Wrong ms a f = some_none (broken condition.Wrong ms) ms a f
marks_apart condition.Arguments ms a f = some_none (broken condition.Arguments ms) ms a f
marks_apart condition.Label ms a f = some_none (broken condition.Label ms) ms a f
marks_apart condition.Break ms a f = some_none breaks_loose ms a f
marks_apart condition.Step ms a f = some_none (crosses_step ms) ms a f
marks_apart condition.Range ms a f = some_none (broken condition.Range ms) ms a f
marks_apart condition.Cells ms a f = some_none (broken condition.Cells ms) ms a f
marks_apart condition.NoProcess ms a f = some_none begins_there ms f a
marks_apart condition.Start ms (inl a) f = let g = f.0 in omega arith
marks_apart condition.Start ms (inr a) f = let g = f.1 in omega arith

condition_apart : (x : Option Condition) (ms : List Mark) → IsSomeAnd x (λ c. marks.AppliesToMarks c ms) → IfSome x (λ c. FitsMarks c ms) → ⊥
condition_apart None ms a f = a
condition_apart (Some x) ms a f = marks_apart x ms a f

circle_apart : (ps : List Proctype) → SomeBody Circle ps → EachBody SettlesEverywhere ps → ⊥
circle_apart ps h all = circle_not h.1.body (all h.0 h.1 h.2) h.3

point_apart : (b : Seq) → BadFirstPoint b → FirstPointsFit b → ⊥
point_apart b h fits =
    let fit = fits h.position h.body h.stands h.point h.comes h.settled in
    elim h.bad [
      | inl e ↦ (let f : true ≡ false = sym e ∙ fit.0 in absurd cc)
      | inr out ↦ out fit.1
    ]

step_apart : (ps : List Proctype) → SomeBody BadFirstPoint ps → EachBody FirstPointsFit ps → ⊥
step_apart ps h all = point_apart h.1.body h.3 (all h.0 h.1 h.2)

start_apart : (p : Program) → HasBadStart p → HasGoodStart p → ⊥
start_apart p h g = apart_results (sym h.1 ∙ g.1)
  where
    apart_results : {A B : Type 0} {x : A} {y : B} → ◌≡◌ {A = Result B A} (Err x) (Ok y) → ⊥
    apart_results e = cc

model_apart : (x : Refusal) (p : Program) → BreaksModel x p → KeepsModel x p → ⊥
model_apart r.DStep p a f = step_apart p.proctypes a f
model_apart r.CircleOfGotos p a f = circle_apart p.proctypes a f
model_apart r.TextTooLong p a f = a
model_apart r.Lexical p a f = a
model_apart r.LeftOut p a f = a
model_apart r.TooDeep p a f = a
model_apart r.Syntax p a f = a
model_apart r.NameTwice p a f = a
model_apart r.UnknownName p a f = a
model_apart r.WrongKind p a f = a
model_apart r.ArgumentCount p a f = a
model_apart r.Label p a f = a
model_apart r.BreakOutsideDo p a f = a
model_apart r.NumberOutOfRange p a f = a
model_apart r.TooManyCells p a f = a
model_apart r.NoProcess p a f = a
model_apart r.TooManyAtStart p a f = a
model_apart r.Initialiser p a f = start_apart p a f
model_apart r.Inline p a f = a

-- a refusal does not apply to what fits it
pub apart : (x : Refusal) (ms : List Mark) (p : Program) → AppliesTo x ms p → FitsTo x ms p → ⊥
unfolding AppliesTo FitsTo
apart x ms p (inl a) f = condition_apart (condition_of x) ms a f.0
apart x ms p (inr a) f = model_apart x p a f.1
