-- The changes of a step by the indices of cells among all.
use Rattle.std.specs.Prelude.{ℕ, ◌+◌, if◌then◌else◌, true, List, [], ◌∷◌, Option, Some, None, ℤ}
use Rattle.std.specs.Ordering.{int_eq}
use Rattle.pml_program.specs.declared.program.Program.{Program}
use Rattle.promela_run.specs.State.{cell_of}
use Rattle.run_layout.specs.Numbers.{number_in}
use Rattle.promela_process.specs.declared.place.Place.{Place}
use Rattle.run_values.specs.declared.changed.Change.{Change}
use Rattle.promela_run.specs.Lines.{Owner, owners}

-- the place of the cell with this index, where the first owner's frame has the number f
abbrev pub place_at : ℕ → List Owner → ℕ → Option Place
place_at f [] i = None
place_at f (o ∷ os) i = elim (number_in o.slots i) as (λ _. Option Place) [
  | None ↦ place_at (f + 1) os (cell_of o.slots i)
  | Some n ↦ Some (record { frame = f; variable = n; cell = cell_of o.slots i })
]

-- the change of a place that is there
abbrev pub changed_from : Option Place → ℤ → List Change
changed_from None number = []
changed_from (Some q) number = record { place = q; number = number } ∷ []

-- that of a cell, by its index
abbrev pub changed_at : Program → List ℕ → ℕ → ℤ → List Change
changed_at p sorts i = changed_from (place_at 0 (owners p true true sorts) i)

-- that of a cell by its numbers before and after, where they differ
abbrev pub changed_number : Program → List ℕ → ℕ → ℤ × ℤ → List Change
changed_number p sorts i numbers = if int_eq numbers.0 numbers.1 then [] else changed_at p sorts i numbers.1
