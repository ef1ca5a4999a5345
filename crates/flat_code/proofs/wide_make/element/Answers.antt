use Rattle.std.proofs.Common.{rules, ◌≡◌, Some}
use Rattle.pml_program.specs.declared.expr.Turn.{out-Turn}
use Rattle.flat_code.proofs.Widening.{leads_to_element}
use Rattle.flat_code.proofs.wide_make.element.Goals as goal

pub returns : goal.returns
returns c =
    let u = c.in_ok-turn.turn.now in
    let indexed : (out-Turn u).index ≡ Some c.get.result.now = search rules in
    let one : (out-Turn u).stride ≡ 1 = search rules in
    leads_to_element c.args.globals.now c.args.locals.now c.args.target.now u c.get.result.now c.in_ok-first.first c.in_ok-index.index c.in_ok-turn.ensures indexed one c.in_ok-first.ensures c.in_ok-index.ensures
