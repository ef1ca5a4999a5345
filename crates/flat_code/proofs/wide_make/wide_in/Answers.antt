use Rattle.std.proofs.Common.{◌≡◌, rules, Some}
use Rattle.pml_program.specs.declared.program.Action.TheVariants.{Assign}
use Rattle.flat_code.proofs.Widening.{wide_same, wide_up, wide_down, wide_asks}
use Rattle.flat_code.proofs.wide_make.wide_in.Goals as goal

pub returns-in-Assign-Some-default : goal.returns-in-Assign-Some-default
returns-in-Assign-Some-default c =
    let x : c.args.action.now ≡ Assign (Some c.in-Assign-Some-default.target) c.in-Assign-Some-default.value = search rules in
    wide_same c.args.globals.now c.args.locals.now c.args.action.now _ c.wide_set.result x c.wide_set.ensures

pub returns-in-Increment : goal.returns-in-Increment
returns-in-Increment c = rw c.in-Increment.is (wide_up c.args.globals.now c.args.locals.now c.in-Increment.target c.wide_counted.result c.wide_counted.ensures)

pub returns-in-Decrement : goal.returns-in-Decrement
returns-in-Decrement c = rw c.in-Decrement.is (wide_down c.args.globals.now c.args.locals.now c.in-Decrement.target c.wide_counted-in-Decrement.result c.wide_counted-in-Decrement.ensures)

pub returns-in_ok-value-in-Holds : goal.returns-in_ok-value-in-Holds
returns-in_ok-value-in-Holds c = rw c.in-Holds.is (wide_asks c.args.globals.now c.args.locals.now c.in-Holds.value c.in_ok-value-in-Holds.value c.in_ok-value-in-Holds.ensures)
