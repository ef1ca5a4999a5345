use Rattle.std.proofs.Common.{rules, refl}
use Rattle.std.proofs.lemmas.Result.{err_from_is_err_and}
use Rattle.session.proofs.Parts.{Leads-does, Leads-breaks}
use Rattle.session.proofs.Steps.{fault_cut}
use Rattle.session.proofs.Turns.{step_part, step_breaks, fault_does}
use Rattle.session.proofs.Gathering.{told_same, gathered_same, waits_same, waits_more, waits_written, waits_nil, waits_cut, texts_written, texts_cut, halts_nil}
use Rattle.session.proofs.whole.advance.Goals as goal

pub returns-in_err-f-clause-part : goal.returns-in_err-f-clause-part
returns-in_err-f-clause-part g c =
    let p = err_from_is_err_and c.from_residual.result c.from_residual.ensures.1 in
    rw (p.1, p.2, c.in_err-f.ensures.broken, c.in_err-f.ensures.bytes, c.in_err-f.ensures.begins) (λ xs n follows stream are is.
    let rest = step_part g.M.Machine.rules c.args.terms.now.options c.args.machine.now c.args.m.now c.args.steps.now follows stream in (rest, waits_same rest xs _ _ _ are is))

pub returns-in_err-write-in-Some-clause-part : goal.returns-in_err-write-in-Some-clause-part
returns-in_err-write-in-Some-clause-part g c =
    let p = err_from_is_err_and c.from_residual-in_err-write-in-Some.result c.from_residual-in_err-write-in-Some.ensures.1 in
    let faults = rw c.in-Some.is at c.in_ok-f.ensures.text in
    rw (p.1, p.2, c.in_err-write-in-Some.ensures.broken) (λ xs n follows stream are is.
    (texts_cut (step_part g.M.Machine.rules c.args.terms.now.options c.args.machine.now c.args.m.now c.args.steps.now follows stream) xs _ _ _ _ (gathered_same xs _ _ _ _ faults.2 faults.3 are) is c.in_err-write-in-Some.ensures.cut, c.write.ensures.bytes))

pub returns-in_err-put_out-in-Some-clause-part : goal.returns-in_err-put_out-in-Some-clause-part
returns-in_err-put_out-in-Some-clause-part g c =
    let p = err_from_is_err_and c.from_residual-in_err-put_out-in-Some.result c.from_residual-in_err-put_out-in-Some.ensures.1 in
    let faults = rw c.in-Some.is at c.in_ok-f.ensures.text in
    rw (p.1, p.2, c.write.ensures.bytes, c.write.ensures.begins, c.in_ok-write-in-Some.ensures.same) (λ xs n follows stream are is.
    halts_nil c.in_err-put_out-in-Some.field-0.0 (Leads-breaks (texts_written (step_part g.M.Machine.rules c.args.terms.now.options c.args.machine.now c.args.m.now c.args.steps.now follows stream) xs _ _ _ (gathered_same xs _ _ _ _ faults.2 faults.3 are) is c.in_ok-write-in-Some.ensures.text)
    (step_breaks g.M.Machine.rules c.args.terms.now.options c.args.machine.now c.args.m.now c.args.steps.now _ follows stream c.args.steps.now (fault_cut g.M.Machine.rules c.args.terms.now.options c.args.machine.now c.args.m.now c.args.steps.now _ c.in-Some.f c.deref.result.now faults.0 (search rules) c.in_err-put_out-in-Some.ensures.text))))

pub returns-in_ok-put_out-in-Some-clause-part : goal.returns-in_ok-put_out-in-Some-clause-part
returns-in_ok-put_out-in-Some-clause-part g c =
    let faults = rw c.in-Some.is at c.in_ok-f.ensures.text in
    λ xs n follows stream are is.
    Leads-does (texts_written (step_part g.M.Machine.rules c.args.terms.now.options c.args.machine.now c.args.m.now c.args.steps.now follows stream) xs _ _ _ (gathered_same xs _ _ _ _ faults.2 faults.3 are) is c.in_ok-write-in-Some.ensures.text)
    (fault_does g.M.Machine.rules c.args.terms.now.options c.args.machine.now c.args.m.now c.args.steps.now follows stream c.in-Some.f c.write.new.steps c.end_of.result c.end_of.ensures faults.0
    (told_same c.deref.result.now _ (search rules) c.in_ok-put_out-in-Some.ensures.text) c.in_ok-write-in-Some.ensures.same)

pub returns-in_err-write-in-None-clause-part : goal.returns-in_err-write-in-None-clause-part
returns-in_err-write-in-None-clause-part g c =
    let p = err_from_is_err_and c.from_residual-in_err-write-in-None.result c.from_residual-in_err-write-in-None.ensures.1 in
    let goes = rw c.in-None.is at c.in_ok-f.ensures.text in
    rw (p.1, p.2, c.in_err-write-in-None.ensures.broken) (λ xs n follows stream are is. (
      waits_cut _ _ _ (waits_more g.M.Machine.rules c.args.terms.now.options c.args.machine.now c.args.m.now c.args.steps.now follows stream c.gather_step.new.machine goes.0 _ goes.1 refl xs _ _ _ _ are is goes.2)
          c.in_err-write-in-None.ensures.cut,
      c.write-then-is_enough.ensures.bytes,
    ))

pub returns-in_ok-write-in-None-clause-part : goal.returns-in_ok-write-in-None-clause-part
returns-in_ok-write-in-None-clause-part g c =
    let goes = rw c.in-None.is at c.in_ok-f.ensures.text in
    rw (c.write-then-is_enough.ensures.bytes, c.write-then-is_enough.ensures.begins, c.in_ok-write-in-None.ensures.same) (λ xs n follows stream are is.
    waits_nil _ (waits_written _ _ _ (waits_more g.M.Machine.rules c.args.terms.now.options c.args.machine.now c.args.m.now c.args.steps.now follows stream c.gather_step.new.machine goes.0 _ goes.1 refl xs _ _ _ _ are is goes.2)
    c.in_ok-write-in-None.ensures.text))

pub returns-else-is_enough-clause-part : goal.returns-else-is_enough-clause-part
returns-else-is_enough-clause-part g c =
    let goes = rw c.in-None.is at c.in_ok-f.ensures.text in
    λ xs n follows stream are is.
    waits_more g.M.Machine.rules c.args.terms.now.options c.args.machine.now c.args.m.now c.args.steps.now follows stream c.gather_step.new.machine goes.0 _ goes.1 refl xs _ _ _ _ are is goes.2
