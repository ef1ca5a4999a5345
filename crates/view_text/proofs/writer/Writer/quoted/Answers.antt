use Rattle.std.proofs.Common.{◌∷◌, ap}
use Rattle.view_text.specs.Written.{quoted_byte}
use Rattle.view_text.proofs.Writing.{chain, item_more}
use Rattle.view_text.proofs.writer.Writer.quoted.Goals as goal

pub loop-byte-preserved : goal.loop-byte-preserved
loop-byte-preserved c =
    chain _ _ _ _ _ _ c.loop-byte.invariant c.quoted_byte.ensures
    (ap (λ l. 34 ∷ l) (item_more quoted_byte c.args.bytes.now c.loop-byte.byte-index _ c.loop-byte-test.true))
