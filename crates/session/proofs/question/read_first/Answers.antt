use Rattle.std.proofs.Common.{◌≡◌, length, ap, sym, ◌∙◌, true, false}
use Rattle.std.proofs.lemmas.Result.{err_from_is_err_and}
use Rattle.promela_session.specs.declared.form.Version.TheVariants.{First}
use Rattle.promela_session.specs.Session.{place_of_move, reply_at, begins_second}
use Rattle.session.proofs.Asking.{plain_asked, header_last, first_broken, header_asked, header_broken, header_whole, ok_then, err_then}
use Rattle.session.proofs.question.read_first.Goals as goal

pub returns-in_err-ends-clause-err : goal.returns-in_err-ends-clause-err
returns-in_err-ends-clause-err g c =
    let p = err_from_is_err_and c.from_residual.result c.from_residual.ensures.1 in
    rw p.1 (first_broken (length c.args.moves.now) (place_of_move g.M.Machine.rules c.args.machine.now c.args.moves.now) c.in_err-ends.ensures.err)

pub returns-in-Last-clause-ok : goal.returns-in-Last-clause-ok
returns-in-Last-clause-ok g c =
    let header : begins_second c.in_ok-ends.ends c.read_line.new.line ≡ true = sym (c.begins_second.ensures ∙ ap (begins_second c.in_ok-ends.ends) c.as_slice.ensures) ∙ c.if-begins_second.true in
    header_last (length c.args.moves.now) (place_of_move g.M.Machine.rules c.args.machine.now c.args.moves.now) (rw c.in-Last.is at c.in_ok-ends.ensures.ok) (rw c.in-Last.is at header)

pub returns-in_default : goal.returns-in_default
returns-in_default g c =
    let header : begins_second c.in_ok-ends.ends c.read_line.new.line ≡ true = sym (c.begins_second.ensures ∙ ap (begins_second c.in_ok-ends.ends) c.as_slice.ensures) ∙ c.if-begins_second.true in
    let whole = header_whole c.in_ok-ends.ends c.read_line.new.line header c.in_default.not-Last in
    let reads = rw whole at c.in_ok-ends.ensures.ok in
    let is = rw whole at header in
    record {
      ok = ok_then c.read_one.result (λ said asked. header_asked (length c.args.moves.now) (place_of_move g.M.Machine.rules c.args.machine.now c.args.moves.now) reads is said c.read_one.new.stream asked) (c.read_one.ensures.ok);
      err = err_then c.read_one.result (λ asked. header_broken (length c.args.moves.now) (place_of_move g.M.Machine.rules c.args.machine.now c.args.moves.now) reads is asked) (c.read_one.ensures.err);
      range = c.read_one.ensures.range;
      broken = c.read_one.ensures.broken;
      count = rw (← c.in_ok-ends.ensures.count) c.read_one.ensures.count;
    }

pub returns-clause-ok : goal.returns-clause-ok
returns-clause-ok g c =
    let place = place_of_move g.M.Machine.rules c.args.machine.now c.args.moves.now in
    let plain : begins_second c.in_ok-ends.ends c.read_line.new.line ≡ false = sym (c.begins_second.ensures ∙ ap (begins_second c.in_ok-ends.ends) c.as_slice.ensures) ∙ c.if-begins_second.false in
    rw c.stream_behind.ensures (plain_asked (length c.args.moves.now) place c.reply_at.result c.in_ok-ends.ensures.ok plain
    (c.reply_at.ensures.value ∙ ap (reply_at First (length c.args.moves.now) place c.in_ok-ends.ends) c.as_slice-2.ensures))
