use Rattle.std.specs.Option.{option_copied}
use Rattle.flat_code.specs.declared.code.FlatCode.TheVariants.{No}
use Rattle.run_state.proofs.Tables.{adds_flat, adds_wide, adds_wanted, no_flat}
use Rattle.run_state.proofs.coding.add_code.Goals as goal

pub returns-in-Some : goal.returns-in-Some
returns-in-Some c =
    let o = option_copied c.args.basic in
    adds_wanted c.args.globals.now c.args.locals.now o c.args.codes.now c.add_wide.new.self _ c.add_wide.result
    (adds_wide c.args.globals.now c.args.locals.now o c.args.codes.now c.in-Some.code c.in-Some.ensures) c.add_wide.ensures

pub returns-in-None : goal.returns-in-None
returns-in-None c =
    let o = option_copied c.args.basic in
    adds_wanted c.args.globals.now c.args.locals.now o c.args.codes.now c.add.new.self _ c.add.result
    (adds_flat c.args.globals.now c.args.locals.now o c.args.codes.now No (no_flat c.args.globals.now c.args.locals.now o)) c.add.ensures

pub returns-in_default : goal.returns-in_default
returns-in_default c =
    let o = option_copied c.args.basic in
    adds_wanted c.args.globals.now c.args.locals.now o c.args.codes.now c.add-in_default.new.self _ c.add-in_default.result
    (adds_flat c.args.globals.now c.args.locals.now o c.args.codes.now c.code_of.result c.code_of.ensures) c.add-in_default.ensures
