-- Which of the variables of an owner has a cell, by its number.
use Rattle.std.specs.Prelude.{ℕ, suc, length, ◌-◌, ltb, if◌then◌else◌, List, [], ◌∷◌, Option, Some, None}
use Rattle.pml_program.specs.declared.program.Slot.{Slot}
use Rattle.promela_run.specs.State.{size}

-- how many of them lie before the one with this cell, or how many there are
abbrev pub number_of : List Slot → ℕ → ℕ
number_of [] i = 0
number_of (s ∷ ss) i = if ltb i (size s) then 0 else suc (number_of ss (i - size s))

-- the number of the one with this cell, if one has it
abbrev pub number_in : List Slot → ℕ → Option ℕ
number_in ss i = if ltb (number_of ss i) (length ss) then Some (number_of ss i) else None
