use Rattle.run_step.proofs.Leading.{leads_quiet}
use Rattle.run_step.proofs.effect.does.Goals as goal

pub returns-in-Run-clause-value : goal.returns-in-Run-clause-value
returns-in-Run-clause-value c = rw c.in-Run.is (leads_quiet _ c.run.result c.run.new.live.state c.args.text.now.items c.run.ensures.value)

pub returns-in-AssignRun-clause-value : goal.returns-in-AssignRun-clause-value
returns-in-AssignRun-clause-value c =
    rw c.in-AssignRun.is (leads_quiet _ c.run_into.result c.run_into.new.live.state c.args.text.now.items c.run_into.ensures.value)
