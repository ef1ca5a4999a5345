use Rattle.std.proofs.Common.{◌≡◌, ◌++◌, drop, map}
use Rattle.pml_macros.proofs.table.MacroTable.names.Given as goal

abbrev pub invariant-loop-made : goal.invariant-loop-made
invariant-loop-made l = record {
  items : l.made-items ≡ l.self.macros.items;
  names : l.names.items ++ map (λ m. m.name) (drop l.made-index l.made-items) ≡ map (λ m. m.name) l.made-items;
}
