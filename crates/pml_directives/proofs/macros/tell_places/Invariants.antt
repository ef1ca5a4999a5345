use Rattle.std.proofs.Common.{◌≡◌}
use Rattle.pml_directives.proofs.macros.tell_places.Given as goal

abbrev pub invariant-loop-atom : goal.invariant-loop-atom
invariant-loop-atom l = l.state ≡ record l.initial.state { work = l.state.work }
