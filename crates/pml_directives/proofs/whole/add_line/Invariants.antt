use Rattle.std.proofs.Common.{◌≡◌, ◌++◌, map, take}
use Rattle.pml_directives.specs.States.{shifted}
use Rattle.pml_directives.proofs.whole.add_line.Given as goal

abbrev pub invariant-loop-atom : goal.invariant-loop-atom
invariant-loop-atom l = l.state.run.items ≡ l.initial.state.run.items ++ map (shifted l.shift) (take l.atom-index l.atoms)
