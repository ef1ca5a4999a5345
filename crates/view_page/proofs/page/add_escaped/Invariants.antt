-- the bytes before the loop's are written
use Rattle.std.proofs.Common.{take}
use Rattle.view_text.specs.Written.{Adds}
use Rattle.view_page.specs.Page.{shown}
use Rattle.view_page.proofs.page.add_escaped.Given as goal

abbrev pub invariant-loop-byte : goal.invariant-loop-byte
invariant-loop-byte l = Adds l.initial.out l.out (shown (take l.byte-index l.bytes))
