use Rattle.std.proofs.Common.{arith}
use Rattle.std.proofs.lemmas.Result.{err_from_is_err_and}
use Rattle.promela_session.specs.Session.{end_of}
use Rattle.session.specs.Ending.{final_cause}
use Rattle.promela_session.specs.declared.ends.Cause.TheVariants as cause
use Rattle.session.proofs.Parts.{Leads-does, Leads-breaks}
use Rattle.session.proofs.Turns.{to_finish, to_limit, write_breaks, last_does, act_turn}
use Rattle.session.proofs.whole.ask_or_end.Goals as goal

pub returns-in_err-finish-clause-part : goal.returns-in_err-finish-clause-part
returns-in_err-finish-clause-part g c =
    let p = err_from_is_err_and c.from_residual.result c.from_residual.ensures.1 in
    rw (p.1, p.2) (Leads-breaks (to_finish c.args.terms.now.notes g.M.Machine.rules c.args.terms.now.options c.args.machine.now c.args.steps.now c.args.course.now.stream _ _ c.requires.all (omega arith))
    (write_breaks _ _ _ c.in_err-finish.ensures.text))

pub returns-then-moves-eq0-clause-part : goal.returns-then-moves-eq0-clause-part
returns-then-moves-eq0-clause-part g c =
    Leads-does (to_finish c.args.terms.now.notes g.M.Machine.rules c.args.terms.now.options c.args.machine.now c.args.steps.now c.args.course.now.stream _ _ c.requires.all (omega arith))
    (last_does _ c.in_ok-finish.field-0 (end_of (final_cause (g.M.Machine.rules.is_valid c.args.machine.now)) c.args.steps.now) c.args.course.now.stream c.in_ok-finish.ensures.end c.in_ok-finish.ensures.text)

pub returns-in_err-stop-clause-part : goal.returns-in_err-stop-clause-part
returns-in_err-stop-clause-part g c =
    let p = err_from_is_err_and c.from_residual-in_err-stop.result c.from_residual-in_err-stop.ensures.1 in
    rw (p.1, p.2) (Leads-breaks (to_limit c.args.terms.now.notes g.M.Machine.rules c.args.terms.now.options c.args.machine.now c.args.steps.now c.args.course.now.stream _ _ c.requires.all (λ none. absurd (omega arith)) (omega arith))
    (write_breaks _ _ _ c.in_err-stop.ensures.text))

pub returns-then-steps-terms-clause-part : goal.returns-then-steps-terms-clause-part
returns-then-steps-terms-clause-part g c =
    Leads-does (to_limit c.args.terms.now.notes g.M.Machine.rules c.args.terms.now.options c.args.machine.now c.args.steps.now c.args.course.now.stream _ _ c.requires.all (λ none. absurd (omega arith)) (omega arith))
    (last_does _ c.in_ok-stop.field-0 (end_of cause.StepLimit c.args.steps.now) c.args.course.now.stream c.in_ok-stop.ensures.end c.in_ok-stop.ensures.text)

pub returns-clause-part : goal.returns-clause-part
returns-clause-part g c = act_turn c.args.terms.now.notes g.M.Machine.rules c.args.terms.now.options c.args.machine.now c.act.new.machine c.args.steps.now c.act.new.steps c.args.course.now c.act.new.course _ _ _
    c.requires.all (λ none. absurd (omega arith)) (omega arith) c.act.result c.act.ensures.part c.act.ensures.falls
