-- What a record keeps of the choices of a walk.
use Rattle.std.specs.Prelude.{ℕ, nat_lt, if◌then◌else◌, List, ◌∷◌, []}
use Rattle.std.specs.List.{flat_map}
use Rattle.promela_session.specs.Events.{record_line}
use Rattle.view_walk.specs.declared.leg.Leg.{Leg}

-- the number of a choice that is one of several; of the only move there is none
abbrev pub number_of : Leg → List ℕ
number_of t = if nat_lt 1 t.of then t.choice ∷ [] else []

-- the numbers of choices, one behind another
abbrev pub numbers_of : List Leg → List ℕ
numbers_of ts = flat_map number_of ts

-- their record: a line for each number
abbrev pub record_of : List Leg → List ℕ
record_of ts = flat_map record_line (numbers_of ts)
