-- What the name is that begins at each byte of a text, by number: 0 where none does.
use Rattle.std.specs.Prelude.{ℕ, nat_lt, if◌then◌else◌, List, [], ◌∷◌, length, slice_set, slice_index_or, replicate, Option, Some, None}
use Rattle.declared_names.specs.declared.declared.Declaration.{Declaration}
use Rattle.declared_names.specs.declared.occurrence.Occurrence.{Occurrence}
use Rattle.model_names.specs.declared.names.TextNames.{TextNames}
use Rattle.lsp_results.specs.declared.sorts.DeclaredSort.{DeclaredSort}
use Rattle.lsp_results.specs.declared.sorts.DeclaredSort.TheVariants.{Variable, Field, Constant, Typedef, Proctype, Label, Inline, Parameter}
use Rattle.lsp_results.specs.Sorts.{sort_in}

-- from 1, as the legend lists them
abbrev pub number_of : DeclaredSort → ℕ
number_of Variable = 1
number_of Field = 2
number_of Constant = 3
number_of Typedef = 4
number_of Proctype = 5
number_of Inline = 6
number_of Parameter = 7
number_of Label = 8

-- a number in the cell of a byte, if there is one
abbrev pub put : List ℕ → ℕ → ℕ → List ℕ
put cells at n = if nat_lt at (length cells) then slice_set cells at n else cells

-- what declared names are, where they are declared
abbrev pub declared : List Declaration → List ℕ → List Declaration → List ℕ
declared all cells [] = cells
declared all cells (d ∷ ds) = declared all (put cells d.at (number_of (sort_in all d))) ds

-- what names are, where they stand, by what is declared
abbrev pub meant : List ℕ → List ℕ → List Occurrence → List ℕ
meant known cells [] = cells
meant known cells (o ∷ os) = meant known (put cells o.at (slice_index_or known o.declared 0)) os

-- what is declared in a text of so many bytes: inlines and their parameters last
abbrev pub known_in : ℕ → TextNames → List ℕ
known_in n names = declared names.declarations.items (declared names.declarations.items (replicate n 0) names.declarations.items) names.inlines.declarations.items

-- what the name is that begins at each byte: an inline's or its parameter first
abbrev pub cells_of : ℕ → TextNames → List ℕ
cells_of n names = meant (known_in n names) (meant (known_in n names) (replicate n 0) names.meant.items) names.inlines.meant.items

-- nothing is known of a text without names
abbrev pub cells_by : ℕ → Option TextNames → List ℕ
cells_by n None = []
cells_by n (Some names) = cells_of n names
