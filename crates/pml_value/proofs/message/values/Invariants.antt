use Rattle.std.proofs.Common.{◌≡◌, ◌++◌, Ok, drop, length}
use Rattle.promela_process.specs.Expressions.{◌>>=◌}
use Rattle.promela_run.specs.Statements.{values}
use Rattle.pml_value.specs.Seen.{seen}
use Rattle.pml_value.proofs.message.values.Given as goal

-- the values so far and those of the rest are those of all, one for each expression so far
abbrev pub invariant-loop-one : goal.invariant-loop-one
invariant-loop-one l = record {
  count : length l.fields ≡ l.one-index;
  same : (values (drop l.one-index l.expressions) (seen l.view) >>= λ more. Ok (l.fields ++ more)) ≡ values l.expressions (seen l.view);
}
