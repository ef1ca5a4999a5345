use Rattle.session.proofs.Conversions.{noting_runs, noting_breaks}
use Rattle.session.proofs.converting.run_noting.Goals as goal

pub returns-in-Ok-clause-part : goal.returns-in-Ok-clause-part
returns-in-Ok-clause-part g c = noting_runs g.M.Machine.rules c.args.options.now c.args.machine.now c.run.result _ _ _ c.run.new.steps c.in-Ok.ensures.ok c.run.ensures.part

pub returns-in-Err-clause-part : goal.returns-in-Err-clause-part
returns-in-Err-clause-part g c = noting_breaks g.M.Machine.rules c.args.options.now c.args.machine.now _ _ c.args.steps.now c.requires c.in-Err.ensures.err
