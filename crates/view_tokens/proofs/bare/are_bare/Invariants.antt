-- the bytes before the loop's
use Rattle.std.proofs.Common.{◌≡◌, take}
use Rattle.std.specs.List.{list_all}
use Rattle.view_tokens.specs.Printing.{is_bare}
use Rattle.view_tokens.proofs.bare.are_bare.Given as goal

abbrev pub invariant-loop-byte : goal.invariant-loop-byte
invariant-loop-byte l = l.are ≡ list_all is_bare (take l.byte-index l.bytes)
