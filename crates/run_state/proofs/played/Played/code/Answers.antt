use Rattle.run_state.proofs.Tables.{code_numbered}
use Rattle.run_state.proofs.played.Played.code.Goals as goal

pub returns : goal.returns
returns c =
    rw (← c.self.view_is)
    (code_numbered c.self.inside.beginnings c.self.inside.flat.items c.args.sort c.args.statement c.code_at.result c.self.invariant.codes (rw c.as_slice.ensures.value at c.code_at.ensures))
