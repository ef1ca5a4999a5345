use Rattle.std.proofs.Common.{arith}
use Rattle.std.proofs.lemmas.Grind.{common_steps}
use Rattle.promela_session.specs.Lines.{reply_of}
use Rattle.session.proofs.choice.reply_of_word.Goals as goal

pub returns-then-is_quit-clause-value : goal.returns-then-is_quit-clause-value
unfolding reply_of
returns-then-is_quit-clause-value c = grind (arith, common_steps)

pub returns-in-Some-clause-value : goal.returns-in-Some-clause-value
unfolding reply_of
returns-in-Some-clause-value c = grind (arith, common_steps)

pub returns-in-None-clause-value : goal.returns-in-None-clause-value
unfolding reply_of
returns-in-None-clause-value c = grind (arith, common_steps)
