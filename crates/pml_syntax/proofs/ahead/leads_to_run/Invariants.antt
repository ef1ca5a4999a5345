use Rattle.std.proofs.Common.{◌≡◌, ◌≤◌, length, ◌-◌}
use Rattle.pml_syntax.specs.ReadingStatements.{leads_to_run}
use Rattle.pml_syntax.proofs.ahead.leads_to_run.Given as goal

abbrev pub invariant-loop-turn : goal.invariant-loop-turn
invariant-loop-turn l = record { same : leads_to_run l.ahead ≡ leads_to_run l.fn.tokens; few : length l.ahead ≤ l._turn-end - l._turn }
