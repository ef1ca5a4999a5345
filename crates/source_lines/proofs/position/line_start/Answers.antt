use Rattle.std.proofs.Common.{arith}
use Rattle.source_lines.proofs.Lines.{front_same, front_fresh}
use Rattle.source_lines.proofs.position.line_start.Goals.{then-is_line_feed, else-is_line_feed}
use Rattle.source_lines.proofs.position.line_start.Goals as goal

pub loop-i-preserved : goal.loop-i-preserved
loop-i-preserved c =
    let xs = c.front-byte-items.result.now in
    elim c.if-is_line_feed.branch [
      | then-is_line_feed w ↦ let e = front_fresh xs c.loop-i.i c.loop-i-test.true (grind arith) in omega (arith, e, w.start-is)
      | else-is_line_feed w ↦ let e = front_same xs c.loop-i.i c.loop-i-test.true (grind arith) in omega (arith, e, w.start-is, c.loop-i.invariant)
    ]
