use Rattle.view_text.proofs.Writing.{chain, item_more}
use Rattle.view_page.specs.Page.{held_byte}
use Rattle.view_page.proofs.page.add_lines.Goals as goal

pub loop-byte-preserved : goal.loop-byte-preserved
loop-byte-preserved c =
    chain _ _ _ _ _ _ c.loop-byte.invariant c.add_held_byte.ensures (item_more held_byte c.args.lines.now c.loop-byte.byte-index _ c.loop-byte-test.true)
