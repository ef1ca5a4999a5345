use Rattle.std.proofs.Common.{refl}
use Rattle.run_start.proofs.Shapes.{push_keeps, keeps-then}
use Rattle.run_start.proofs.begin.make_channel.Goals as goal

pub returns-clause-keeps : goal.returns-clause-keeps
returns-clause-keeps c = keeps-then c.args.started.now _ _ (push_keeps _ c.args.started.now _ _ refl refl c.push.ensures.items) c.store_number.ensures.keeps
