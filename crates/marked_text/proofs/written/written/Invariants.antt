use Rattle.std.proofs.Common.{take}
use Rattle.marked_text.specs.Writes.{names, spot}
use Rattle.marked_text.proofs.Going.{Written}
use Rattle.marked_text.proofs.written.written.Given as goal

abbrev pub invariant-loop-atom : goal.invariant-loop-atom
invariant-loop-atom l = Written l.book (names l.sources.names.now) (take l.atom-index l.atoms) l.out.items (spot l.pen)
