use Rattle.std.proofs.Common.{◌≡◌, drop}
use Rattle.pml_directives.specs.Names.{is_closed}
use Rattle.pml_directives.proofs.whole.bracketed.Given as goal

abbrev pub invariant-loop-atom : goal.invariant-loop-atom
invariant-loop-atom l = is_closed l.state.work.book (drop l.atom-index l.atoms) ≡ is_closed l.state.work.book l.atoms
