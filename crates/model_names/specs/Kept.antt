-- Names that were read of a text.
use Rattle.std.specs.Prelude.{ℕ, List, Option, Some, None, IfSome}
use Rattle.model_names.specs.declared.names.TextNames.{TextNames}
use Rattle.model_names.specs.Told.{AreMeant}

-- if they were read, they are its own
abbrev pub AreOf : List ℕ → Option (Option TextNames) → Type 0
AreOf text None = Unit {0}
AreOf text (Some o) = IfSome o (λ n. AreMeant text n.meant.items)
