use Rattle.std.proofs.Common.{◌≡◌, ℕ, ◌-◌, ◌<◌, ◌≤◌, List, length, get_or, Some, None, Ok, rules, arith}
use Rattle.std.proofs.lemmas.Result.{err_from_is_err_and}
use Rattle.std.proofs.lemmas.List.{get_or_read}
use Rattle.promela_machine.specs.Machine.{Rules}
use Rattle.promela_session.specs.Session.{answered, end_of}
use Rattle.session.specs.Answers.{cause_of}
use Rattle.session.proofs.Parts.{Leads-trans, Leads-does, Leads-breaks, Does-then, Breaks-then}
use Rattle.session.proofs.Turns.{step_leads, fault_does, step_breaks, to_step, to_stop, write_breaks, last_does, acts_of}
use Rattle.session.proofs.whole.act.Goals as goal

-- the picked move stands at its number
picked : {S M : Type 0} (rules : Rules S M) (moves : List M) (n : ℕ) (m first : M) → (0 < n) × (n ≤ length moves) → m ≡ get_or moves (n - 1) m → m ≡ get_or moves (n - 1) first
picked rules moves n m first range is = get_or_read moves (n - 1) m (omega arith) is first

pub returns-in_err-said-clause-part : goal.returns-in_err-said-clause-part
returns-in_err-said-clause-part g c =
    let p = err_from_is_err_and c.from_residual.result c.from_residual.ensures.1 in
    acts_of c.args.terms.now.notes g.M.Machine.rules c.args.terms.now.options c.args.machine.now c.args.machine.now c.args.steps.now c.args.steps.now c.args.course.now.stream c.select.new.stream c.args.moves.now _ _ c.from_residual.result c.requires.all (rw (p.1, p.2) (λ later first. Breaks-then (answered g.M.Machine.rules c.args.terms.now.options c.args.machine.now c.args.moves.now first c.args.steps.now later) (c.in_err-said.ensures.part c.args.steps.now)))

pub returns-in_err-step-clause-part : goal.returns-in_err-step-clause-part
returns-in_err-step-clause-part g c =
    let p = err_from_is_err_and c.from_residual-in_err-step.result c.from_residual-in_err-step.ensures.1 in
    acts_of c.args.terms.now.notes g.M.Machine.rules c.args.terms.now.options c.args.machine.now c.step.new.machine c.args.steps.now c.step.new.steps c.args.course.now.stream c.select.new.stream c.args.moves.now _ _ c.from_residual-in_err-step.result c.requires.all (rw (p.1, p.2) (λ later first.
    let asked = Does-then (answered g.M.Machine.rules c.args.terms.now.options c.args.machine.now c.args.moves.now first c.args.steps.now later) (c.in_ok-said.ensures.part c.args.steps.now) in
    let taken = to_step g.M.Machine.rules c.args.terms.now.options c.args.machine.now c.args.moves.now first c.args.steps.now later c.in-Pick.n c.index-moves-n.result c.select.new.stream (picked g.M.Machine.rules c.args.moves.now c.in-Pick.n c.index-moves-n.result first (rw c.in-Pick.is at c.in_ok-said.ensures.range) c.index-moves-n.is) (rw c.in-Pick.is at asked) in
    Leads-breaks taken (step_breaks g.M.Machine.rules c.args.terms.now.options c.args.machine.now c.index-moves-n.result c.args.steps.now _ later c.select.new.stream c.step.new.steps c.in_err-step.ensures.step)))

pub returns-in-None-clause-part : goal.returns-in-None-clause-part
returns-in-None-clause-part g c = acts_of c.args.terms.now.notes g.M.Machine.rules c.args.terms.now.options c.args.machine.now c.step.new.machine c.args.steps.now c.step.new.steps c.args.course.now.stream c.select.new.stream c.args.moves.now _ _ (Ok None) c.requires.all (λ later first.
    let asked = Does-then (answered g.M.Machine.rules c.args.terms.now.options c.args.machine.now c.args.moves.now first c.args.steps.now later) (c.in_ok-said.ensures.part c.args.steps.now) in
    let taken = to_step g.M.Machine.rules c.args.terms.now.options c.args.machine.now c.args.moves.now first c.args.steps.now later c.in-Pick.n c.index-moves-n.result c.select.new.stream (picked g.M.Machine.rules c.args.moves.now c.in-Pick.n c.index-moves-n.result first (rw c.in-Pick.is at c.in_ok-said.ensures.range) c.index-moves-n.is) (rw c.in-Pick.is at asked) in
    let goes = rw c.in-None.is at c.in_ok-step.ensures.step in
    Leads-trans taken (step_leads g.M.Machine.rules c.args.terms.now.options c.args.machine.now c.index-moves-n.result c.args.steps.now later c.select.new.stream c.step.new.machine goes.0 c.step.new.steps goes.1 goes.2 goes.3))

pub returns-in-Some-clause-part : goal.returns-in-Some-clause-part
returns-in-Some-clause-part g c = acts_of c.args.terms.now.notes g.M.Machine.rules c.args.terms.now.options c.args.machine.now c.step.new.machine c.args.steps.now c.step.new.steps c.args.course.now.stream c.select.new.stream c.args.moves.now _ _ (Ok (Some c.end_of.result)) c.requires.all (λ later first.
    let asked = Does-then (answered g.M.Machine.rules c.args.terms.now.options c.args.machine.now c.args.moves.now first c.args.steps.now later) (c.in_ok-said.ensures.part c.args.steps.now) in
    let taken = to_step g.M.Machine.rules c.args.terms.now.options c.args.machine.now c.args.moves.now first c.args.steps.now later c.in-Pick.n c.index-moves-n.result c.select.new.stream (picked g.M.Machine.rules c.args.moves.now c.in-Pick.n c.index-moves-n.result first (rw c.in-Pick.is at c.in_ok-said.ensures.range) c.index-moves-n.is) (rw c.in-Pick.is at asked) in
    let faults = rw c.in-Some.is at c.in_ok-step.ensures.step in
    Leads-does taken (fault_does g.M.Machine.rules c.args.terms.now.options c.args.machine.now c.index-moves-n.result c.args.steps.now later c.select.new.stream c.in-Some.f c.step.new.steps c.end_of.result c.end_of.ensures faults.0 faults.1 faults.2))

pub returns-in_err-stop-clause-part : goal.returns-in_err-stop-clause-part
returns-in_err-stop-clause-part g c =
    let p = err_from_is_err_and c.from_residual-in_err-stop.result c.from_residual-in_err-stop.ensures.1 in
    acts_of c.args.terms.now.notes g.M.Machine.rules c.args.terms.now.options c.args.machine.now c.args.machine.now c.args.steps.now c.args.steps.now c.args.course.now.stream c.select.new.stream c.args.moves.now _ _ c.from_residual-in_err-stop.result c.requires.all (rw (p.1, p.2) (λ later first.
    let asked = Does-then (answered g.M.Machine.rules c.args.terms.now.options c.args.machine.now c.args.moves.now first c.args.steps.now later) (c.in_ok-said.ensures.part c.args.steps.now) in
    let ended = to_stop g.M.Machine.rules c.args.terms.now.options c.args.machine.now c.args.moves.now first c.args.steps.now later c.in_ok-said.said c.select.new.stream c.in_default.not-Pick asked in
    Leads-breaks ended (write_breaks _ _ _ (rw c.cause_of.ensures.cause at c.in_err-stop.ensures.text))))

pub returns-clause-part : goal.returns-clause-part
returns-clause-part g c = acts_of c.args.terms.now.notes g.M.Machine.rules c.args.terms.now.options c.args.machine.now c.args.machine.now c.args.steps.now c.args.steps.now c.args.course.now.stream c.select.new.stream c.args.moves.now _ _ (Ok (Some c.in_ok-stop.field-0)) c.requires.all (λ later first.
    let asked = Does-then (answered g.M.Machine.rules c.args.terms.now.options c.args.machine.now c.args.moves.now first c.args.steps.now later) (c.in_ok-said.ensures.part c.args.steps.now) in
    let ended = to_stop g.M.Machine.rules c.args.terms.now.options c.args.machine.now c.args.moves.now first c.args.steps.now later c.in_ok-said.said c.select.new.stream c.in_default.not-Pick asked in
    Leads-does ended (last_does _ c.in_ok-stop.field-0 (end_of (cause_of c.in_ok-said.said) c.args.steps.now) c.select.new.stream (rw c.cause_of.ensures.cause at c.in_ok-stop.ensures.end) (rw c.cause_of.ensures.cause at c.in_ok-stop.ensures.text)))
