use Rattle.std.proofs.Common.{ap, ◌∙◌, sym, ℕ, take, arith}
use Rattle.source_lines.specs.Places.{is_return}
use Rattle.source_lines.proofs.Lines.{off_more, on_more, feed_past}
use Rattle.source_lines.proofs.position.first_end.Goals.{then-not-is_return, else-not-is_return}
use Rattle.source_lines.proofs.position.first_end.Goals as goal

pub loop-i-preserved : goal.loop-i-preserved
loop-i-preserved c =
    let xs = c.args.text.now in
    let past = feed_past xs c.loop-i.i c.loop-i-test.true (grind arith) c.loop-i.invariant.first in
    elim c.if-not-is_return.branch [
      | then-not-is_return w ↦ let e = on_more is_return xs c.loop-i.i c.loop-i-test.true (grind arith) in
          record { within = omega (arith, w.end-is); is = ap (λ (n : ℕ). take n xs) w.end-is ∙ sym e; first = past }
      | else-not-is_return w ↦ let e = off_more is_return xs c.loop-i.i c.loop-i-test.true (grind arith) in
          record { within = omega (arith, w.end-is, c.loop-i.invariant.within); is = ap (λ (n : ℕ). take n xs) w.end-is ∙ c.loop-i.invariant.is ∙ sym e; first = past }
    ]
