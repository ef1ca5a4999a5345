use Rattle.std.proofs.Common.{◌≡◌, ◌∷◌, take}
use Rattle.std.specs.List.{flat_map}
use Rattle.pml_directives.specs.Names.{escaped}
use Rattle.pml_directives.proofs.macros.quoted.Given as goal

abbrev pub invariant-loop-b : goal.invariant-loop-b
invariant-loop-b l = l.text.items ≡ 34 ∷ flat_map escaped (take l.b-index l.name)
