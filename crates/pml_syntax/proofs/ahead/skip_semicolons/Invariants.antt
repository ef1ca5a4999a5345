use Rattle.std.proofs.Common.{◌≡◌, ◌≤◌, length, ◌-◌}
use Rattle.pml_syntax.specs.ReadingUnits.{skip_semicolons}
use Rattle.pml_syntax.proofs.ahead.skip_semicolons.Given as goal

abbrev pub invariant-loop-turn : goal.invariant-loop-turn
invariant-loop-turn l = record { same : skip_semicolons l.tokens ≡ skip_semicolons l.fn.tokens; few : length l.tokens ≤ l._turn-end - l._turn }
