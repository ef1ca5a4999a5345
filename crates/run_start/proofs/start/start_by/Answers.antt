use Rattle.std.proofs.Common.{rules, refl, Ok, Err, arith, ◌≡◌, ◌≤◌, ◌∙◌, ap, sym, drop, [], List, drop_of_length-le}
use Rattle.pml_program.specs.declared.program.Proctype.{Proctype}
use Rattle.pml_store.specs.Writing.{Contents}
use Rattle.run_start.specs.Shown.{begun}
use Rattle.run_start.specs.Bound.{bound}
use Rattle.promela_run.specs.State.{nothing, frame_begun, sorts_begun, first_state}
use Rattle.run_start.proofs.Carrying.{first_carried}
use Rattle.run_start.proofs.Stepping.{made, start_stopped}
use Rattle.run_start.proofs.Bounding.{first_bounded}
use Rattle.run_start.proofs.start.start_by.Goals as goal

pub returns-clause-bounded : goal.returns-clause-bounded
returns-clause-bounded c =
    let p = c.args.program.now in
    let b = begun p c.loop-sort.started in
    let w = c.requires.within in
    let counted : bound p ≤ 4294967295 = omega (arith, w.globals, w.processes, w.channels) in
    let none : drop c.loop-sort.sort p.proctypes ≡ [] = drop_of_length-le p.proctypes (rw (← c.as_slice-processes.ensures) c.loop-sort-test.false) in
    let all = ap (λ (qs : List Proctype). sorts_begun p c.loop-sort.sort qs b) (sym none) ∙ c.loop-sort.invariant.same in
    record {
      counted = counted;
      most = ap (λ (s : Contents). s.most) c.forget.ensures ∙ c.loop-sort.invariant.most;
      live = first_bounded p b all;
    }

pub returns-in_err-begin_frame-clause-value : goal.returns-in_err-begin_frame-clause-value
returns-in_err-begin_frame-clause-value c =
    let p = c.args.program.now in
    let r : c.from_residual.result ≡ Err c.in_err-begin_frame.field-0.0 = search rules in
    rw r (start_stopped p (frame_begun p.typedefs p.globals (nothing p)) (first_state p) c.in_err-begin_frame.field-0.0 (begun p c.begin_frame.new.started) (sorts_begun p 0 p.proctypes) refl
    (first_carried p c.args.beginnings.now.typedefs c.as_slice.result.now (record { store = c.new.result; channels = c.new-2.result; sorts = c.new-3.result }) c.begin_frame.new.started (Err c.in_err-begin_frame.field-0.0)
    c.requires.known (search rules) (search rules) (search rules) (search rules) c.begin_frame.ensures.sorts c.in_err-begin_frame.ensures.value))

pub loop-sort-init : goal.loop-sort-init
loop-sort-init c =
    let p = c.args.program.now in
    record {
      same =
          sym (made (frame_begun p.typedefs p.globals (nothing p)) _ (begun p c.begin_frame.new.started) (sorts_begun p 0 p.proctypes)
          (first_carried p c.args.beginnings.now.typedefs c.as_slice.result.now (record { store = c.new.result; channels = c.new-2.result; sorts = c.new-3.result }) c.begin_frame.new.started (Ok c.in_ok-begin_frame.field-0)
          c.requires.known (search rules) (search rules) (search rules) (search rules) c.begin_frame.ensures.sorts c.in_ok-begin_frame.ensures.value));
      declared = search rules;
      most = search rules;
    }
