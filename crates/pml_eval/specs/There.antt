-- Where the places that a receive asks for are cells.
use Rattle.std.specs.Prelude.{ℕ, ◌<◌, List}
use Rattle.std.specs.List.{AllByRecursion}
use Rattle.promela_process.specs.declared.sought.Sought.{Sought}
use Rattle.promela_process.specs.declared.sought.Sought.TheVariants.{Exactly, Into, Anything}

-- a place that is asked for is a cell of its variable, which has so many
abbrev pub IsThere : (ℕ → ℕ → ℕ) → Sought → Type 0
IsThere cells (Exactly n) = Unit {0}
IsThere cells (Into p form) = p.cell < cells p.frame p.variable
IsThere cells Anything = Unit {0}

abbrev pub AreThere : (ℕ → ℕ → ℕ) → List Sought → Type 0
AreThere cells = AllByRecursion (IsThere cells)
