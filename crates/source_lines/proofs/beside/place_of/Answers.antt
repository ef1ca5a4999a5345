use Rattle.std.proofs.Common.{ap, ◌∙◌, sym, ◌+◌, ◌-◌, length, arith}
use Rattle.std.specs.List.{range_with_len}
use Rattle.source_lines.specs.Beside.{stands_at, such_behind}
use Rattle.source_lines.proofs.Counting.{such_not, such_past}
use Rattle.source_lines.proofs.beside.place_of.Goals.{then-stands_at+else-left-eq0, else-stands_at}
use Rattle.source_lines.proofs.beside.place_of.Goals as goal

pub loop-at-preserved : goal.loop-at-preserved
loop-at-preserved c =
    let p = stands_at c.args.line.now c.args.token.now in
    let i = c.loop-at.at in
    let len = length c.args.line.now in
    let n = c.loop-at.left in
    let on = such_behind p (range_with_len (i + 1) (len - (i + 1))) in
    elim c.if-stands_at.branch [
      | then-stands_at+else-left-eq0 w ↦
          ap on w.left-is ∙ sym (such_past p i len n (n - 1) c.loop-at-test.true (grind arith) (omega (arith, w.if-left-eq0.false))) ∙ c.loop-at.invariant
      | else-stands_at w ↦ ap on w.left-is ∙ sym (such_not p i len n c.loop-at-test.true (grind arith)) ∙ c.loop-at.invariant
    ]
