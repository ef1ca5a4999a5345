use Rattle.std.proofs.Common.{sym, ◌∙◌, arith}
use Rattle.pml_syntax.proofs.Turns.{skip_stops, skip_goes, skip_done}
use Rattle.pml_syntax.proofs.ahead.skip_separators.Goals as goal

pub returns-then-not-is_separator : goal.returns-then-not-is_separator
returns-then-not-is_separator c = sym (skip_stops c.loop-turn.tokens cc) ∙ c.loop-turn.invariant.same

pub loop-turn-preserved : goal.loop-turn-preserved
loop-turn-preserved c =
    let goes = skip_goes c.loop-turn.tokens cc in
    record { same = rw c.skip.ensures (goes.0 ∙ c.loop-turn.invariant.same); few = rw c.skip.ensures (omega (arith, goes.1, c.loop-turn.invariant.few)) }

pub returns : goal.returns
returns c = sym (skip_done c.loop-turn.tokens (omega (arith, c.loop-turn.invariant.few))) ∙ c.loop-turn.invariant.same
