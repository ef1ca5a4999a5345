use Rattle.std.proofs.Common.{ap}
use Rattle.promela_process.specs.Expressions.{Reading}
use Rattle.run_state.proofs.Holding.{one_in_same}
use Rattle.run_state.proofs.live.Live.store.Goals as goal

pub put-requires : goal.put-requires
put-requires c =
    one_in_same c.view.result.store.now.frames c.args.self.now.state.frames c.in-Ok.goes (ap (λ (r : Reading). r.cells) c.view.ensures.reads) c.in-Ok.ensures.there
