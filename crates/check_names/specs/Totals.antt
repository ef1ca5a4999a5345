-- Running totals of what is declared.
use Rattle.std.specs.Prelude.{◌≡◌, ℕ, ◌+◌, min, List, slice_index_or}
use Rattle.check_names.specs.declared.totals.Total.{Total}
use Rattle.promela_model.specs.declared.thing.Thing.{Thing}
use Rattle.check_names.specs.Entry.{Entry}
use Rattle.promela_model.specs.Names.{cells_in, variables_in}
use Rattle.profile.specs.declared.TheConstants.{MOST_CELLS}
use Rattle.check_names.specs.Env.{held, variables, constants}

-- cells are counted up to one more than there may be
abbrev pub most_cells : ℕ
most_cells = MOST_CELLS + 1

abbrev pub none : Total
none = record { cells = 0; variables = 0 }

-- with one thing more
abbrev pub grown : Total → Thing → Total
grown t x = record { cells = min (t.cells + cells_in x) most_cells; variables = t.variables + variables_in x }

abbrev pub total_at : List Total → ℕ → Total
total_at ts o = slice_index_or ts o none

-- the totals and the count are those of what is declared
pub record IsTotalled (es : List Entry) (ts : List Total) (n : ℕ) : Type 0 where
  pub cells : (o : ℕ) → (total_at ts o).cells ≡ min (held es o) most_cells
  pub variables : (o : ℕ) → (total_at ts o).variables ≡ variables es o
  pub constants : n ≡ constants es
