use Rattle.std.proofs.Common.{◌≡◌, length, ◌-◌}
use Rattle.pml_syntax.specs.ReadingStatements as reading
use Rattle.pml_syntax.proofs.declaration.variables.Given as goal

abbrev pub invariant-loop-turn : goal.invariant-loop-turn
invariant-loop-turn l =
    reading.variables_from l.depth (length l.fn.tokens) l.opener l.fn.first l.fn.tokens ≡ reading.variables_from l.depth (l._turn-end - l._turn) l.opener l.found l.tokens
