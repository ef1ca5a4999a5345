-- Where the edges of a node's one level stand, where it has just one.
use Rattle.std.specs.Prelude.{ℕ, List, [], ◌∷◌, map, Option, Some, None, slice_index_or}
use Rattle.pml_flow.specs.declared.only.Span.{Span}
use Rattle.pml_flow.specs.Arms.{begin_of}
use Rattle.pml_flow.specs.Graph.{Node}

-- of levels: nowhere where there is none, or more than one
abbrev pub only_span : List ℕ → List ℕ → Option Span
only_span bs [] = None
only_span bs (n ∷ []) = Some (record { begin = begin_of bs n; end = slice_index_or bs n 0 })
only_span bs (n ∷ m ∷ ns) = None

-- of each node
abbrev pub only_spans : List ℕ → List Node → List (Option Span)
only_spans bs ns = map (λ (n : Node). only_span bs n.levels) ns
