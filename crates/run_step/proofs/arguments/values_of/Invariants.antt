use Rattle.std.proofs.Common.{◌≡◌, ◌++◌, Ok, drop}
use Rattle.promela_process.specs.Expressions.{◌>>=◌}
use Rattle.promela_run.specs.Statements.{values}
use Rattle.pml_value.specs.Seen.{seen}
use Rattle.run_step.proofs.arguments.values_of.Given as goal

-- the values so far and those of the rest are those of all
abbrev pub invariant-loop-one : goal.invariant-loop-one
invariant-loop-one l = (values (drop l.one-index l.expressions) (seen l.view) >>= λ more. Ok (l.numbers.items ++ more)) ≡ values l.expressions (seen l.view)
