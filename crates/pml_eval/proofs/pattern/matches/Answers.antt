use Rattle.std.proofs.Common.{sym}
use Rattle.pml_eval.proofs.Matching.{matched-length}
use Rattle.pml_eval.proofs.pattern.matches.Goals as goal

pub returns-then-sought-fields : goal.returns-then-sought-fields
returns-then-sought-fields c = sym (matched-length c.args.sought.now c.args.fields.now c.if-sought-fields.true)
