use Rattle.std.proofs.Common.{arith}
use Rattle.source_lines.specs.Beside.{stands_at}
use Rattle.source_lines.proofs.Counting.{counted_more}
use Rattle.source_lines.proofs.beside.count_before.Goals as goal

pub loop-at-preserved : goal.loop-at-preserved
loop-at-preserved c =
    let e = counted_more (stands_at c.args.line.now c.args.token.now) c.loop-at.at in
    grind (arith, e)
