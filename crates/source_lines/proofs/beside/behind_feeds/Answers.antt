use Rattle.std.proofs.Common.{ap, ◌∙◌, sym, ◌+◌, ◌-◌, drop, arith}
use Rattle.source_lines.specs.Beside.{behind_feeds}
use Rattle.source_lines.proofs.Feeds.{at_feed, at_other}
use Rattle.source_lines.proofs.beside.behind_feeds.Goals.{then-is_line_feed, else-is_line_feed}
use Rattle.source_lines.proofs.beside.behind_feeds.Goals as goal

pub loop-at-preserved : goal.loop-at-preserved
loop-at-preserved c =
    let xs = c.args.text.now in
    let i = c.loop-at.at in
    let n = c.loop-at.left in
    elim c.if-is_line_feed.branch [
      | then-is_line_feed w ↦ ap (behind_feeds (drop (i + 1) xs)) w.left-is ∙ sym (at_feed xs i n (n - 1) c.loop-at-test.true (omega (arith, c.if-left-eq0.false)) (grind arith)) ∙ c.loop-at.invariant
      | else-is_line_feed w ↦ ap (behind_feeds (drop (i + 1) xs)) w.left-is ∙ sym (at_other xs i n (n - 1) c.loop-at-test.true (omega (arith, c.if-left-eq0.false)) (grind arith)) ∙ c.loop-at.invariant
    ]
