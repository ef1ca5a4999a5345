use Rattle.std.proofs.Common.{◌≡◌, ◌++◌, map, drop}
use Rattle.check_resolve.specs.Numbered.{scope_of, through, at_scope, numbered_argument, numbered_step}
use Rattle.check_resolve.proofs.expression.+expression.Given as goal

abbrev pub invariant-wants-loop-argument : goal.invariant-wants-loop-argument
invariant-wants-loop-argument l =
    l.wants ++ at_scope (map numbered_argument (drop l.argument-index l.arguments)) (scope_of l.within)
    ≡ at_scope (map numbered_argument l.arguments) (scope_of l.within)

abbrev pub invariant-through-loop-step : goal.invariant-through-loop-step
invariant-through-loop-step l =
    let sc = scope_of l.within in
    let rest = through l.here (map numbered_step (drop l.step-index l.steps)) sc in
    let whole = through l.fn.form (map numbered_step l.steps) sc in
    record { form : rest.0 ≡ whole.0; turns : l.turns ++ rest.1 ≡ l.initial.turns ++ whole.1 }
