use Rattle.std.proofs.Common.{◌≡◌, length, subst, rules}
use Rattle.pml_store.specs.Writing.{HasPlace}
use Rattle.run_start.proofs.Shapes.{set_keeps, place_is}
use Rattle.run_start.proofs.begin.store_number.Goals as goal

pub returns-clause-keeps : goal.returns-clause-keeps
returns-clause-keeps c =
    let n : c.len.result ≡ length c.args.started.now.sorts.items = search rules in
    set_keeps c.set.result c.args.started.now c.set.new.self (record { frame = c.len.result; variable = c.args.variable; cell = c.args.cell }) _ (rw n (subst (HasPlace c.args.started.now.store.frames) (place_is c.args.started.now c.args.variable c.args.cell) c.requires)) n
    c.set.ensures.ok c.set.ensures.err
