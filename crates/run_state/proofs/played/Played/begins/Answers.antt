use Rattle.run_state.proofs.Placing.{started}
use Rattle.run_state.proofs.played.Played.begins.Goals as goal

pub returns-clause-stands : goal.returns-clause-stands
returns-clause-stands c =
    rw (← c.self.view_is) (started c.self.inside.beginnings c.self.inside.graphs.now c.args.sort c.start_of-node.result c.self.invariant.played.graphs c.start_of-node.ensures)
