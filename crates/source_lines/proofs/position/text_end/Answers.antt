use Rattle.std.proofs.Common.{ap, ◌∙◌, sym, ◌+◌, length, arith, length-take}
use Rattle.source_lines.specs.Places.{ends_line}
use Rattle.source_lines.proofs.Lines.{off_more, on_more}
use Rattle.source_lines.proofs.position.text_end.Goals.{then-not-ends_line, else-not-ends_line}
use Rattle.source_lines.proofs.position.text_end.Goals as goal

pub loop-i-preserved : goal.loop-i-preserved
loop-i-preserved c =
    elim c.if-not-ends_line.branch [
      | then-not-ends_line w ↦ let e = on_more ends_line c.args.text.now c.loop-i.i c.loop-i-test.true (grind arith) in let n = ap length e in omega (arith, n, w.end-is, length-take (c.loop-i.i + 1) c.args.text.now, c.loop-i-test.true)
      | else-not-ends_line w ↦ let e = off_more ends_line c.args.text.now c.loop-i.i c.loop-i-test.true (grind arith) in w.end-is ∙ c.loop-i.invariant ∙ sym (ap length e)
    ]
