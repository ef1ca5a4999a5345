use Rattle.std.proofs.Common.{◌≡◌, drop}
use Rattle.pml_expression.specs.Reading as reading
use Rattle.pml_expression.proofs.cursor.Cursor.expect_all.Given as goal

abbrev pub invariant-loop-kind : goal.invariant-loop-kind
invariant-loop-kind l = reading.expect_all l.kinds l.fn.self ≡ reading.expect_all (drop l.kind-index l.kinds) l.self
