-- the bytes before the loop's are written
use Rattle.std.proofs.Common.{◌∷◌, take}
use Rattle.std.specs.List.{flat_map}
use Rattle.view_text.specs.Written.{Adds, quoted_byte}
use Rattle.view_text.proofs.writer.Writer.quoted.Given as goal

abbrev pub invariant-loop-byte : goal.invariant-loop-byte
invariant-loop-byte l = Adds l.fn.self l.self (34 ∷ flat_map quoted_byte (take l.byte-index l.bytes))
