use Rattle.std.proofs.Common.{◌≡◌, ◌++◌, drop}
use Rattle.std.specs.List.{flat_map}
use Rattle.pml_macros.specs.Calls.{escaped}
use Rattle.pml_macros.proofs.replacing.add_escaped.Given as goal

abbrev pub invariant-loop-b : goal.invariant-loop-b
invariant-loop-b l = l.text.items ++ flat_map (escaped l.is_quoted) (drop l.b-index l.bytes) ≡ l.initial.text.items ++ flat_map (escaped l.is_quoted) l.bytes
