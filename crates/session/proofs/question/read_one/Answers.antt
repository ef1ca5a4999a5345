use Rattle.std.proofs.Common.{length, ap, ◌∙◌}
use Rattle.std.proofs.lemmas.Result.{err_from_is_err_and}
use Rattle.promela_session.specs.Session.{place_of_move, reply_at}
use Rattle.session.proofs.Asking.{line_asked, line_broken}
use Rattle.session.proofs.question.read_one.Goals as goal

pub returns-in_err-ends-clause-err : goal.returns-in_err-ends-clause-err
returns-in_err-ends-clause-err g c =
    let p = err_from_is_err_and c.from_residual.result c.from_residual.ensures.1 in
    rw p.1 (line_broken c.args.version (length c.args.moves.now) (place_of_move g.M.Machine.rules c.args.machine.now c.args.moves.now) c.in_err-ends.ensures.err)

pub returns-clause-ok : goal.returns-clause-ok
returns-clause-ok g c =
    let place = place_of_move g.M.Machine.rules c.args.machine.now c.args.moves.now in
    rw c.stream_behind.ensures (line_asked c.args.version (length c.args.moves.now) place c.reply_at.result c.in_ok-ends.ensures.ok
    (c.reply_at.ensures.value ∙ ap (reply_at c.args.version (length c.args.moves.now) place c.in_ok-ends.ends) c.as_slice.ensures))
