use Rattle.std.proofs.Common.{rules}
use Rattle.std.proofs.lemmas.Result.{err_from_is_err_and}
use Rattle.session.proofs.Moving.{Moved-nil}
use Rattle.session.proofs.Steps.{step_refused, step_cut, fault_cut}
use Rattle.session.proofs.writing.step.Goals as goal

pub returns-in_err-take_step-clause-step : goal.returns-in_err-take_step-clause-step
returns-in_err-take_step-clause-step g c =
    let p = err_from_is_err_and c.from_residual.result c.from_residual.ensures.1 in
    rw (p.1, p.2) (rw c.in_err-take_step.ensures.broken (step_refused g.M.Machine.rules c.args.options.now c.args.machine.now c.args.m.now c.args.steps.now Moved-nil))

pub returns-in_err-put_out-in-None-clause-step : goal.returns-in_err-put_out-in-None-clause-step
returns-in_err-put_out-in-None-clause-step g c =
    let p = err_from_is_err_and c.from_residual-in_err-put_out-in-None.result c.from_residual-in_err-put_out-in-None.ensures.1 in
    let taken = rw c.in-None.is at c.in_ok-take_step.ensures.text in
    rw (p.1, p.2) (step_cut g.M.Machine.rules c.args.options.now c.args.machine.now c.args.m.now c.args.steps.now _ c.take_step.new.machine taken.0 c.deref.result.now taken.1 (search rules) c.in_err-put_out-in-None.ensures.text)

pub returns-in_err-put_out-in-Some-clause-step : goal.returns-in_err-put_out-in-Some-clause-step
returns-in_err-put_out-in-Some-clause-step g c =
    let p = err_from_is_err_and c.from_residual-in_err-put_out-in-Some.result c.from_residual-in_err-put_out-in-Some.ensures.1 in
    let faults = rw c.in-Some.is at c.in_ok-take_step.ensures.text in
    rw (p.1, p.2) (fault_cut g.M.Machine.rules c.args.options.now c.args.machine.now c.args.m.now c.args.steps.now _ c.in-Some.f c.deref-in-Some.result.now faults.0 (search rules) c.in_err-put_out-in-Some.ensures.text)
