use Rattle.std.proofs.Common.{◌≡◌, ◌<◌, ◌≤◌, length, get_or, min, pos, arith, rules, w32, FitsSigned, ◌∙◌}
use Rattle.std.proofs.lemmas.Int.{to_z-of_z}
use Rattle.promela_process.specs.declared.sought.Sought.TheVariants.{Exactly}
use Rattle.promela_run.specs.Statements.{goes_of}
use Rattle.pml_value.specs.Storing.{stored_all}
use Rattle.pml_value.proofs.Storing.{done-next, done-all, all-there-still, there-next, past-one}
use Rattle.pml_value.proofs.receive.store_fields.Goals as goal

pub loop-i-preserved : goal.loop-i-preserved
loop-i-preserved c =
    let l : c.loop-i.i < length c.args.sought.now = omega (arith, c.min-i-end.ensures, c.loop-i-test.true) in
    let k : c.loop-i.i < length c.args.fields.now = omega (arith, c.min-i-end.ensures, c.loop-i-test.true) in
    let f : FitsSigned w32 (get_or c.args.fields.now c.loop-i.i (pos 0)) = search rules in
    let made : c.store_field.new.store ≡ stored_all c.loop-i.store (goes_of (get_or c.args.sought.now c.loop-i.i (Exactly (pos 0))) (get_or c.args.fields.now c.loop-i.i (pos 0))) =
    rw (to_z-of_z w32 _ f) at c.in_ok-store_field.ensures.ok in
    record {
      done = done-next c.loop-i.i c.args.store.now c.loop-i.store c.store_field.new.store c.args.sought.now c.args.fields.now (Exactly (pos 0)) l k c.loop-i.invariant.done made;
      there = all-there-still c.loop-i.store c.store_field.new.store _ c.in_ok-store_field.ensures.sizes (there-next _ c.args.sought.now c.loop-i.i (Exactly (pos 0)) l c.loop-i.invariant.there);
      past = c.in_ok-store_field.ensures.past ∙ c.loop-i.invariant.past;
    }

pub returns-clause-ok : goal.returns-clause-ok
returns-clause-ok c =
    let past : min (length c.args.sought.now) (length c.args.fields.now) ≤ c.loop-i.i = omega (arith, c.min-i-end.ensures, c.loop-i-test.false) in
    done-all c.loop-i.i c.args.store.now c.loop-i.store c.args.sought.now c.args.fields.now (past-one _ _ _ past) c.loop-i.invariant.done
