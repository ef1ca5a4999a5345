use Rattle.std.proofs.Common.{sym, ◌∙◌, arith}
use Rattle.pml_syntax.proofs.Turns.{semicolons_stop, semicolons_go, semicolons_done}
use Rattle.pml_syntax.proofs.ahead.skip_semicolons.Goals as goal

pub returns-then-not-sees : goal.returns-then-not-sees
returns-then-not-sees c = sym (semicolons_stop c.loop-turn.tokens cc) ∙ c.loop-turn.invariant.same

pub loop-turn-preserved : goal.loop-turn-preserved
loop-turn-preserved c =
    let goes = semicolons_go c.loop-turn.tokens cc in
    record { same = rw c.skip.ensures (goes.0 ∙ c.loop-turn.invariant.same); few = rw c.skip.ensures (omega (arith, goes.1, c.loop-turn.invariant.few)) }

pub returns : goal.returns
returns c = sym (semicolons_done c.loop-turn.tokens (omega (arith, c.loop-turn.invariant.few))) ∙ c.loop-turn.invariant.same
