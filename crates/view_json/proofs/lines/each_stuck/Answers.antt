use Rattle.view_text.proofs.Writing.{each_more}
use Rattle.view_json.specs.Lines.{stuck}
use Rattle.view_json.proofs.Writing.{chain}
use Rattle.view_json.proofs.lines.each_stuck.Goals as goal

pub loop-process-preserved : goal.loop-process-preserved
loop-process-preserved c = chain _ _ _ _ _ _ c.loop-process.invariant c.stuck.ensures (each_more (stuck c.args.live.now.state) c.loop-process.process)
