use Rattle.std.proofs.Common.{sym, ◌∙◌, arith}
use Rattle.pml_syntax.proofs.Turns.{run_stops, run_goes, run_done}
use Rattle.pml_syntax.proofs.ahead.leads_to_run.Goals as goal

pub returns-then-not-sees : goal.returns-then-not-sees
returns-then-not-sees c =
    let stops = run_stops c.loop-turn.ahead cc in
    let same = c.loop-turn.invariant.same in
    cc

pub loop-turn-preserved : goal.loop-turn-preserved
loop-turn-preserved c =
    let goes = run_goes c.loop-turn.ahead cc in
    record { same = rw c.skip.ensures (goes.0 ∙ c.loop-turn.invariant.same); few = rw c.skip.ensures (omega (arith, goes.1, c.loop-turn.invariant.few)) }

pub returns : goal.returns
returns c = sym (run_done c.loop-turn.ahead (omega (arith, c.loop-turn.invariant.few))) ∙ c.loop-turn.invariant.same
