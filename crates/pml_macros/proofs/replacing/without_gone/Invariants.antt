use Rattle.std.proofs.Common.{◌≡◌, ◌++◌, drop}
use Rattle.std.specs.List.{filter}
use Rattle.pml_macros.specs.Calls.{stands}
use Rattle.pml_macros.proofs.replacing.without_gone.Given as goal

abbrev pub invariant-loop-atom : goal.invariant-loop-atom
invariant-loop-atom l = record {
  items : l.atom-items ≡ l.fn.atoms.items;
  kept : l.out.items ++ filter stands (drop l.atom-index l.atom-items) ≡ filter stands l.atom-items;
}
