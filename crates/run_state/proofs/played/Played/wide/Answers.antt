use Rattle.run_state.proofs.Tables.{wide_numbered}
use Rattle.run_state.proofs.played.Played.wide.Goals as goal

pub returns : goal.returns
returns c =
    rw (← c.self.view_is)
    (wide_numbered c.self.inside.beginnings c.self.inside.flat.items c.args.sort c.args.statement c.wide_at.result c.self.invariant.codes (rw c.as_slice.ensures.value at c.wide_at.ensures))
