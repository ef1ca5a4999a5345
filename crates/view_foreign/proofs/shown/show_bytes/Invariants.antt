-- the bytes before the loop's
use Rattle.std.proofs.Common.{◌≡◌, ◌++◌, take, string_bytes}
use Rattle.std.specs.List.{flat_map}
use Rattle.view_foreign.specs.Shown.{shown_sign_byte}
use Rattle.view_foreign.proofs.shown.show_bytes.Given as goal

abbrev pub invariant-loop-byte : goal.invariant-loop-byte
invariant-loop-byte l = string_bytes l.out ≡ string_bytes l.fn.out ++ flat_map shown_sign_byte (take l.byte-index l.bytes)
