use Rattle.std.proofs.Common.{◌≡◌, ◌<◌, ◌∙◌, w32, get_or, length, pos, FitsSigned, rules}
use Rattle.std.proofs.lemmas.Int.{to_z-of_z}
use Rattle.pml_store.specs.Writing.{stored}
use Rattle.promela_run.specs.declared.goes.Goes.{Goes}
use Rattle.run_state.proofs.Stored.{done-next, done-some, in-next}
use Rattle.run_state.proofs.storing.store_all.Goals as goal

pub returns-in_err-set-clause-err : goal.returns-in_err-set-clause-err
returns-in_err-set-clause-err c =
    let some = done-some c.loop-one.one-index c.args.store.now c.loop-one.store c.set.new.self c.args.numbers.now c.loop-one.invariant.done c.in_err-set.ensures.err in
    search (rules, some)

pub loop-one-preserved : goal.loop-one-preserved
loop-one-preserved c =
    let here : c.loop-one.one-index < length c.args.numbers.now = search rules in
    let g : Goes = get_or c.args.numbers.now c.loop-one.one-index (record { place = record { frame = 0; variable = 0; cell = 0 }; number = pos 0 }) in
    let f : FitsSigned w32 g.number = search rules in
    let made : c.set.new.self ≡ stored c.loop-one.store g.place g.number = rw (to_z-of_z w32 _ f) at c.in_ok-set.ensures.ok in
    record {
      done = done-next c.loop-one.one-index c.args.store.now c.loop-one.store c.set.new.self c.args.numbers.now _ here c.loop-one.invariant.done made;
      there = in-next c.loop-one.one-index c.loop-one.store c.set.new.self c.args.numbers.now _ here made c.loop-one.invariant.there;
      past = c.in_ok-set.ensures.past ∙ c.loop-one.invariant.past;
    }
