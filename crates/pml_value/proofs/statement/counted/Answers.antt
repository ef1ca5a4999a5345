use Rattle.std.proofs.Common.{rules}
use Rattle.std.proofs.lemmas.Int.{wraps}
use Rattle.pml_value.proofs.statement.counted.Goals as goal

pub returns-clause-value : goal.returns-clause-value
returns-clause-value c = search (rules, wraps)
