use Rattle.std.proofs.Common.{◌≡◌, drop}
use Rattle.pml_directives.specs.Names.{names_macro}
use Rattle.pml_directives.proofs.macros.names_macro.Given as goal

abbrev pub invariant-loop-atom : goal.invariant-loop-atom
invariant-loop-atom l = names_macro l.state.table (drop l.atom-index l.atoms) ≡ names_macro l.state.table l.atoms
