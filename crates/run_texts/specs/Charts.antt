-- Proctypes with their graphs.
use Rattle.std.specs.Prelude.{ℕ, List}
use Rattle.std.specs.Borrow.{Bor}
use Rattle.pml_flow.specs.Graph.{IsGraph}
use Rattle.run_texts.specs.declared.ends.Chart.{Chart}

-- the graph is that of the proctype
abbrev pub HasGraph : Chart → Type 0
HasGraph k = IsGraph k.proctype.now.body k.proctype.now.end.line k.graph.now

-- the bytes of a name, and the line
abbrev pub told : Bor (List ℕ) × ℕ → List ℕ × ℕ
told r = (r.0.now, r.1)
