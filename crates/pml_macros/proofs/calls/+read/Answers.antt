use Rattle.std.proofs.Common.{◌≤◌, ◌∙◌, [], ap, subst, length, reverse, arith}
use Rattle.std.proofs.lemmas.List.{append-nil}
use Rattle.pml_macros.specs.Calls.{known, tokens, lists, Comes, Turns, HasEntered}
use Rattle.pml_macros.proofs.Reading.{one_more, all_read, asked, not_asked, call_read, length_more}
use Rattle.pml_macros.proofs.calls.+read.Goals as goal
use Rattle.pml_macros.proofs.calls.+read.Goals.{then-is_asked+in_ok-read+in_ok-push, else-is_asked+in_ok-push-2}

pub loop-number-preserved : goal.loop-number-preserved
loop-number-preserved t c =
    let ms = known c.args.table.now in
    let active = c.turn.new.pending.active.items in
    let name = c.in-Some.atom.text in
    let args = c.in-Some-2.arguments.items in
    let n = c.loop-number.number in
    elim c.if-is_asked.branch [
      | then-is_asked+in_ok-read+in_ok-push w ↦
          let more = ap (λ v. v.items) w.all-is ∙ w.in_ok-push.ensures.items in
          let few = c.loop-number.invariant.few in
          let fewer = w.read.ensures.few in
          let is = ap (λ x. x.left) w.work-is in
          let same = c.loop-number.invariant.same in
          let longer = ap length more ∙ length_more c.loop-number.all.items w.in_ok-read.field-0 in
          record {
            few = omega arith;
            same = omega arith;
            read = λ plain. one_more ms active name args c.loop-number.all.items c.if-is_asked.all.items w.in_ok-read.field-0 n same more (c.loop-number.invariant.read plain)
                (asked ms active w.deref.result.now name args w.deref-then-is_asked.result.now n w.argument.result.now w.in_ok-read.field-0.items w.deref.ensures.value w.deref-then-is_asked.ensures.value w.argument.ensures (w.in_ok-read.ensures.comes plain));
          }
      | else-is_asked+in_ok-push-2 w ↦
          let more = ap (λ v. v.items) w.all-is ∙ w.in_ok-push-2.ensures.items in
          let few = c.loop-number.invariant.few in
          let is = ap (λ x. x.left) w.work-is in
          let same = c.loop-number.invariant.same in
          let longer = ap length more ∙ length_more c.loop-number.all.items w.new.result in
          record {
            few = omega arith;
            same = omega arith;
            read = λ plain. one_more ms active name args c.loop-number.all.items c.if-is_asked.all.items w.new.result n same more (c.loop-number.invariant.read plain)
                (not_asked ms active name args n w.new.result.items c.is_asked.result w.if-is_asked.false c.is_asked.ensures);
          }
    ]

pub loop-atom-preserved-in-Some-2 : goal.loop-atom-preserved-in-Some-2
loop-atom-preserved-in-Some-2 t c =
    let ms = known c.args.table.now in
    let a = c.in-Some.atom in
    let out = c.loop-atom.out.items in
    let out' = c.turn.new.out.items in
    let before = c.next_token.new.pending in
    let behind = c.turn.new.pending in
    let after = c.enter_call.new.pending in
    let args = c.in-Some-2.arguments.items in
    let outs = c.loop-number.all.items in
    let fewer = c.loop-number.invariant.few in
    let few = c.loop-atom.invariant.few in
    let long : length args ≤ c.loop-number.number =
    let e = c.len-number-end.ensures in
    let f = c.in-Some-2.arguments.ok.0 in
    let g = c.loop-number-test.false in
    omega arith in
    record {
      few = omega arith;
      whole = λ plain us h.
          let turned = subst (λ o. Turns ms a out before.active.items (reverse before.items.items) out' behind.active.items (reverse behind.items.items) o) c.in-Some-2.is (c.in_ok-arguments.ensures.turns plain) in
          call_read ms c.args.active.now (tokens c.args.atoms.now) out out' before.active.items after.active.items a
          (record { arguments = lists args; active = behind.active.items; items = reverse behind.items.items }) (lists outs) (reverse before.items.items) (reverse after.items.items) us
          (λ vs k. c.loop-atom.invariant.whole plain vs (c.in-Some.ensures.token ms vs k)) turned.0 turned.1
          (all_read ms behind.active.items a.text args outs c.loop-number.number c.loop-number.invariant.same long (c.loop-number.invariant.read plain))
          (λ m k. subst (λ vs. HasEntered m (lists vs) a behind.active.items (reverse behind.items.items) after.active.items (reverse after.items.items)) c.deref-in-Some-2-2.ensures.value (c.in_ok-enter_call.ensures.entered plain m k)) h;
    }

pub loop-atom-preserved : goal.loop-atom-preserved
loop-atom-preserved t c =
    let ms = known c.args.table.now in
    let a = c.in-Some.atom in
    let out = c.loop-atom.out.items in
    let out' = c.turn.new.out.items in
    let before = c.next_token.new.pending in
    let behind = c.turn.new.pending in
    let few = c.loop-atom.invariant.few in
    record {
      few = omega arith;
      whole = λ plain us h.
          let turned = subst (λ o. Turns ms a out before.active.items (reverse before.items.items) out' behind.active.items (reverse behind.items.items) o) c.in_default-2.is (c.in_ok-arguments.ensures.turns plain) in
          turned c.args.active.now (tokens c.args.atoms.now) (λ vs k. c.loop-atom.invariant.whole plain vs (c.in-Some.ensures.token ms vs k)) us h;
    }

pub returns-clause-comes : goal.returns-clause-comes
returns-clause-comes t c = λ plain.
    subst (λ us. Comes (known c.args.table.now) c.args.active.now (tokens c.args.atoms.now) us) (append-nil c.loop-atom.out.items) (c.loop-atom.invariant.whole plain [] (c.in_default.ensures.ended (known c.args.table.now)))
