use Rattle.std.proofs.Common.{◌≡◌, drop}
use Rattle.std.specs.List.{list_any}
use Rattle.explain_find.specs.Tokens.{is_of}
use Rattle.explain_find.proofs.marks.is_step.Given as goal

abbrev pub invariant-loop-step : goal.invariant-loop-step
invariant-loop-step l = list_any (λ s. is_of l.place s.name) (drop l.step-index l.steps) ≡ list_any (λ s. is_of l.place s.name) l.steps
