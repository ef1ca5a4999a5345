-- The ways to the cells of a variable.
use Rattle.std.specs.Prelude.{◌≡◌, ℕ, ◌+◌, ◌-◌, ◌<◌, ◌≤◌, ◌%◌, ◌^◌, List}
use Rattle.pml_program.specs.declared.program.Slot.{Slot}
use Rattle.pml_program.specs.declared.program.Fields.{Fields}
use Rattle.run_layout.specs.declared.cursor.Stage.{Stage}
use Rattle.promela_run.specs.State.{last_field, leaf}
use Rattle.run_layout.specs.Tables.{field_by}

-- the typedefs and the variable whose cells are walked over
pub record Walked : Type 0 where
  pub typedefs : List Fields
  pub slot : Slot

-- the number of a cell of the variable within its element of the field
abbrev pub offset : Stage → ℕ → ℕ
offset g cell = (g.within + (cell - g.first)) % g.stride

-- the field is on the way to each of these cells: from it on the way leads to what the whole way leads to
pub record IsOnWay (ts : List Fields) (s : Slot) (g : Stage) : Type 0 where
  pub form : g.form ≡ (field_by ts s g.place).form
  pub stride : g.stride ≡ (field_by ts s g.place).stride
  pub fits : g.within + (g.last - g.first) < 2 ^ 64
  pub leads : (cell : ℕ) → g.first ≤ cell → cell ≤ g.last → leaf ts s cell ≡ last_field ts g.following (field_by ts s g.place) (offset g cell)
