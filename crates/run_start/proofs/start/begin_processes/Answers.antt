use Rattle.std.proofs.Common.{◌≡◌, Err, rules}
use Rattle.run_start.specs.Shown.{begun}
use Rattle.run_start.proofs.Stepping.{sort_made, sort_stopped}
use Rattle.run_start.proofs.start.begin_processes.Goals as goal

pub returns-in_err-begin_process-clause-value : goal.returns-in_err-begin_process-clause-value
returns-in_err-begin_process-clause-value c =
    let r : c.from_residual.result ≡ Err c.in_err-begin_process.field-0.0 = search rules in
    rw r (sort_stopped c.args.program.now c.args.sort c.loop-start._start c.args.starts (begun c.args.program.now c.loop-start.started) _ _ _ _ c.loop-start-test.true c.loop-start.invariant.same c.in_err-begin_process.ensures.value)

pub loop-start-preserved : goal.loop-start-preserved
loop-start-preserved c = record {
  same = sort_made c.args.program.now c.args.sort c.loop-start._start c.args.starts (begun c.args.program.now c.loop-start.started) (begun c.args.program.now c.begin_process.new.state) _ _ c.loop-start-test.true c.loop-start.invariant.same c.in_ok-begin_process.ensures.value;
  declared = c.in_ok-begin_process.ensures.declared;
  most = c.in_ok-begin_process.ensures.most;
}
