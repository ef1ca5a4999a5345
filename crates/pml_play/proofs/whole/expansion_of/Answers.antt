use Rattle.pml_play.proofs.Playing.{rejected_inline}
use Rattle.pml_play.proofs.whole.expansion_of.Goals as goal

pub returns-in-Ok-clause-ok : goal.returns-in-Ok-clause-ok
returns-in-Ok-clause-ok c text are = record { tokens = c.args.tokens.now; are_tokens = are; is_expanded = c.in-Ok.ensures.ok }

pub returns-in-Err-clause-err : goal.returns-in-Err-clause-err
returns-in-Err-clause-err c text are = rw c.of_inline.ensures (rejected_inline text c.args.tokens.now c.in-Err.fault are c.in-Err.ensures.err c.in-Err.ensures.line)
