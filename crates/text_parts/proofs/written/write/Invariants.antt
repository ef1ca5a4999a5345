use Rattle.std.proofs.Common.{◌≡◌, ◌++◌, drop}
use Rattle.text_parts.specs.Written.{written}
use Rattle.text_parts.proofs.written.write.Given as goal

abbrev pub invariant-loop-byte : goal.invariant-loop-byte
invariant-loop-byte l = l.out.items ++ written l.rest (drop l.byte-index l.bytes) ≡ l.fn.out.items ++ written l.signs l.bytes
