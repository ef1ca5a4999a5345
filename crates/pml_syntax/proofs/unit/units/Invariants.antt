use Rattle.std.proofs.Common.{◌≡◌, length, ◌-◌, []}
use Rattle.pml_syntax.specs.ReadingUnits as reading
use Rattle.pml_syntax.proofs.unit.units.Given as goal

abbrev pub invariant-loop-turn : goal.invariant-loop-turn
invariant-loop-turn l =
    reading.units_from l.depth (length l.fn.tokens) [] l.fn.tokens ≡ reading.units_from l.depth (l._turn-end - l._turn) l.found l.tokens
