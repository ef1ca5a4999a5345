use Rattle.promela_session.specs.Session.{next_line, place_of_move}
use Rattle.std.proofs.Common.{length}
use Rattle.session.proofs.Asking.{over_asked}
use Rattle.session.proofs.question.read_next.Goals as goal

pub returns-in-Over-clause-ok : goal.returns-in-Over-clause-ok
returns-in-Over-clause-ok g c = over_asked _ (length c.args.moves.now) (place_of_move g.M.Machine.rules c.args.machine.now c.args.moves.now) c.args.stream.now c.in-Over.is

pub returns-in-Unread-clause-ok : goal.returns-in-Unread-clause-ok
unfolding next_line
returns-in-Unread-clause-ok g c = rw c.in-Unread.is (c.read_one.ensures.ok)

pub returns-in-Unread-clause-err : goal.returns-in-Unread-clause-err
unfolding next_line
returns-in-Unread-clause-err g c = rw c.in-Unread.is (c.read_one.ensures.err)

pub returns-in-Known-clause-ok : goal.returns-in-Known-clause-ok
unfolding next_line
returns-in-Known-clause-ok g c = rw c.in-Known.is (c.read_one-in-Known.ensures.ok)

pub returns-in-Known-clause-err : goal.returns-in-Known-clause-err
unfolding next_line
returns-in-Known-clause-err g c = rw c.in-Known.is (c.read_one-in-Known.ensures.err)
