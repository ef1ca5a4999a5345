use Rattle.std.proofs.Common.{◌≡◌, length, [], ◌-◌}
use Rattle.pml_syntax.specs.ReadingStatements as reading
use Rattle.pml_syntax.proofs.body.labels.Given as goal

abbrev pub invariant-loop-turn : goal.invariant-loop-turn
invariant-loop-turn l = reading.labels_from (length l.fn.tokens) [] l.fn.tokens ≡ reading.labels_from (l._turn-end - l._turn) l.found l.tokens
