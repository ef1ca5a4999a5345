use Rattle.std.proofs.Common.{rules, ◌≡◌, ◌≤◌, false, List, length, subst, arith}
use Rattle.pml_program.specs.declared.expr.Target.{Target, out-Target}
use Rattle.pml_program.specs.declared.expr.Turn.{Turn}
use Rattle.common_offers.specs.Alike.{AreCommonTurns}
use Rattle.common_offers.proofs.Alike.{place_common, no_turns}
use Rattle.common_offers.proofs.expression.is_common_place.Goals as goal

pub returns : goal.returns
returns c = λ e.
    let t : Target = c.args.target.now in
    let ts : List Turn = c.as_slice-turn-items.result.now in
    let global : (out-Target t).local ≡ false = search (rules, c.if-target.false) in
    let same : ts ≡ (out-Target t).turns = search (rules, c.as_slice-turn-items.ensures) in
    let over : length ts ≤ c.loop-turn.turn-index = omega (arith, c.loop-turn-test.false) in
    place_common t global (subst AreCommonTurns same (c.loop-turn.invariant (no_turns ts c.loop-turn.turn-index over)))
