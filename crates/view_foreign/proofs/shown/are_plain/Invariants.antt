-- the bytes before the loop's
use Rattle.std.proofs.Common.{◌≡◌, take}
use Rattle.std.specs.List.{list_all}
use Rattle.view_foreign.specs.Shown.{is_plain}
use Rattle.view_foreign.proofs.shown.are_plain.Given as goal

abbrev pub invariant-loop-byte : goal.invariant-loop-byte
invariant-loop-byte l = l.are ≡ list_all is_plain (take l.byte-index l.bytes)
