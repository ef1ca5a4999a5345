use Rattle.view_text.proofs.Writing.{chain, item_more}
use Rattle.view_page.specs.Page.{shown_byte}
use Rattle.view_page.proofs.page.add_escaped.Goals as goal

pub loop-byte-preserved : goal.loop-byte-preserved
loop-byte-preserved c =
    chain _ _ _ _ _ _ c.loop-byte.invariant c.add_escaped_byte.ensures (item_more shown_byte c.args.bytes.now c.loop-byte.byte-index _ c.loop-byte-test.true)
