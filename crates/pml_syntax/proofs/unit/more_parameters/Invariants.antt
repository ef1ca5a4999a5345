use Rattle.std.proofs.Common.{◌≡◌, length, ◌-◌}
use Rattle.pml_syntax.specs.ReadingUnits as reading
use Rattle.pml_syntax.proofs.unit.more_parameters.Given as goal

abbrev pub invariant-loop-turn : goal.invariant-loop-turn
invariant-loop-turn l =
    reading.parameters_from (length l.fn.tokens) l.fn.first_opener l.fn.first l.fn.tokens ≡ reading.parameters_from (l._turn-end - l._turn) l.opener l.found l.tokens
