-- nothing that is known is lost
use Rattle.std.specs.Io.KnownBytes.{prepend_known, Keeps}
use Rattle.message_frames.proofs.frames.Frames.next.Given as goal

abbrev pub invariant-loop-turn : goal.invariant-loop-turn
invariant-loop-turn g l = Keeps (prepend_known l.fn.self (g.R.Read.remaining l.fn.reader)) (prepend_known l.self (g.R.Read.remaining l.reader))
