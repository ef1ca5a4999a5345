use Rattle.pml_play.proofs.Playing.{rejected_syntax}
use Rattle.pml_play.proofs.whole.tree_of.Goals as goal

pub returns-in-Err-clause-err : goal.returns-in-Err-clause-err
returns-in-Err-clause-err c text are = rw c.of_syntax.ensures (rejected_syntax text c.args.tokens.now c.in-Err.fault are c.in-Err.ensures.only c.in-Err.ensures.line)
