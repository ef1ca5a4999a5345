use Rattle.pml_play.proofs.Playing.{rejected_lexical}
use Rattle.pml_play.proofs.whole.tokens_of.Goals as goal

pub returns-in-Err-clause-err : goal.returns-in-Err-clause-err
returns-in-Err-clause-err c = rw c.of_lexical.ensures (rejected_lexical c.args.text.now c.in-Err.fault c.in-Err.ensures.err)
