use Rattle.std.proofs.lemmas.Result.{err_from_is_err_and}
use Rattle.promela_session.specs.Session.{kept, place_of_move}
use Rattle.session.proofs.Parts.{Leads-does, Leads-breaks, Does-then, Breaks-then}
use Rattle.session.proofs.Together.{both_written, both_broken}
use Rattle.session.proofs.Turns.{keep_does, keep_breaks}
use Rattle.session.proofs.whole.choose.Goals as goal

pub returns-in_err-write_question-clause-part : goal.returns-in_err-write_question-clause-part
returns-in_err-write_question-clause-part g c =
    let p = err_from_is_err_and c.from_residual.result c.from_residual.ensures.1 in
    rw (p.1, p.2) (λ steps. both_broken _ _ _ _ c.in_err-write_question.ensures.text)

pub returns-in_err-said-clause-part : goal.returns-in_err-said-clause-part
returns-in_err-said-clause-part g c =
    let p = err_from_is_err_and c.from_residual-in_err-said.result c.from_residual-in_err-said.ensures.1 in
    rw (p.1, p.2) (λ steps. Leads-breaks (both_written _ _ _ c.in_ok-write_question.ensures.text) (Breaks-then (kept c.args.notes (place_of_move g.M.Machine.rules c.args.machine.now c.args.moves.now)) (c.in_err-said.ensures.part steps)))

pub returns-in_err-keep-clause-part : goal.returns-in_err-keep-clause-part
returns-in_err-keep-clause-part g c =
    let p = err_from_is_err_and c.from_residual-in_err-keep.result c.from_residual-in_err-keep.ensures.1 in
    rw (p.1, p.2) (λ steps.
    let place = place_of_move g.M.Machine.rules c.args.machine.now c.args.moves.now in
    Leads-breaks (both_written _ _ _ c.in_ok-write_question.ensures.text)
    (Leads-breaks (Does-then (kept c.args.notes place) (c.in_ok-said.ensures.part steps)) (keep_breaks c.args.notes place _ c.in_ok-said.said c.question.new.stream (c.keep.ensures.short) (c.in_err-keep.ensures.text))))

pub returns-clause-part : goal.returns-clause-part
returns-clause-part g c steps =
    let place = place_of_move g.M.Machine.rules c.args.machine.now c.args.moves.now in
    Leads-does (both_written _ _ _ c.in_ok-write_question.ensures.text)
    (Leads-does (Does-then (kept c.args.notes place) (c.in_ok-said.ensures.part steps)) (keep_does c.args.notes place c.in_ok-said.said c.question.new.stream (c.keep.ensures.short) (c.in_ok-keep.ensures.text)))
