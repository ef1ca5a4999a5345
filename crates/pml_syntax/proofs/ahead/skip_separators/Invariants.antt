use Rattle.std.proofs.Common.{◌≡◌, ◌≤◌, length, ◌-◌}
use Rattle.pml_syntax.specs.ReadingStatements.{skip_separators}
use Rattle.pml_syntax.proofs.ahead.skip_separators.Given as goal

abbrev pub invariant-loop-turn : goal.invariant-loop-turn
invariant-loop-turn l = record { same : skip_separators l.tokens ≡ skip_separators l.fn.tokens; few : length l.tokens ≤ l._turn-end - l._turn }
