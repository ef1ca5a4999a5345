use Rattle.walk_lines.proofs.lines.add_each.Goals as goal

pub loop-process-preserved : goal.loop-process-preserved
loop-process-preserved c are refused = c.add_standing.ensures are (c.loop-process.invariant are refused)
