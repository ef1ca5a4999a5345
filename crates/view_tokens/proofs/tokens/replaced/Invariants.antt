-- the bytes before the loop's
use Rattle.std.proofs.Common.{◌≡◌, take, string_bytes}
use Rattle.std.specs.List.{flat_map}
use Rattle.view_tokens.specs.Printed.{mended}
use Rattle.view_tokens.proofs.tokens.replaced.Given as goal

abbrev pub invariant-loop-byte : goal.invariant-loop-byte
invariant-loop-byte l = string_bytes l.text ≡ flat_map mended (take l.byte-index l.bytes)
