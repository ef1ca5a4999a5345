-- How much a run of a model keeps at most.
use Rattle.std.specs.Prelude.{◌≡◌, ℕ, ◌+◌, ◌*◌, ◌≤◌, max, map, length, List, [], ◌∷◌}
use Rattle.std.specs.List.{AllByRecursion}
use Rattle.profile.specs.declared.TheConstants.{MOST_CELLS, MOST_PROCESSES, MOST_CHANNELS}
use Rattle.pml_program.specs.declared.program.Initial.{Initial}
use Rattle.pml_program.specs.declared.program.Initial.TheVariants as i
use Rattle.pml_program.specs.declared.program.Slot.{Slot}
use Rattle.pml_program.specs.declared.program.Fields.{Fields}
use Rattle.pml_program.specs.declared.program.Proctype.{Proctype}
use Rattle.pml_program.specs.declared.program.Program.{Program}
use Rattle.pml_store.specs.Writing.{Contents}
use Rattle.promela_run.specs.State.{size}
use Rattle.promela_run.specs.declared.live_channel.LiveChannel.{LiveChannel}

-- ---- of a model

-- how many cells variables have
abbrev pub cells_of : List Slot → ℕ
cells_of [] = 0
cells_of (s ∷ ss) = size s + cells_of ss

-- how many the parameters and variables of one proctype have at most
abbrev pub largest : List Proctype → ℕ
largest [] = 0
largest (q ∷ qs) = max (cells_of q.variables) (largest qs)

-- how many cells there may be: those of the globals, and of as many processes as may live
abbrev pub most_cells : Program → ℕ
most_cells p = cells_of p.globals + MOST_PROCESSES * largest p.proctypes

-- how many numbers the messages of a channel may have that an initialiser makes
abbrev pub room_by : Initial → ℕ
room_by (i.Channel capacity types) = capacity * length types
room_by _ = 0

-- the most of these, of variables, of the fields of typedefs, and of a model
abbrev pub room_of : List Slot → ℕ
room_of [] = 0
room_of (s ∷ ss) = max (room_by s.initial) (room_of ss)

abbrev pub room_of_fields : List Fields → ℕ
room_of_fields [] = 0
room_of_fields (t ∷ ts) = max (room_of t.fields) (room_of_fields ts)

abbrev pub room_of_processes : List Proctype → ℕ
room_of_processes [] = 0
room_of_processes (q ∷ qs) = max (room_of q.variables) (room_of_processes qs)

abbrev pub most_room : Program → ℕ
most_room p = max (room_of p.globals) (max (room_of_fields p.typedefs) (room_of_processes p.proctypes))

-- The globals have no more cells than an owner may have, nor has any proctype, and no channel that an initialiser makes may hold more
-- numbers than a channel may.
pub record IsWithin (p : Program) : Type 0 where
  pub globals : cells_of p.globals ≤ MOST_CELLS
  pub processes : largest p.proctypes ≤ MOST_CELLS
  pub channels : most_room p ≤ MOST_CELLS

-- What a run keeps at most: the cells of the globals, and for each of as many processes and channels as may live its numbers and two
-- more.
abbrev pub bound : Program → ℕ
bound p = cells_of p.globals + MOST_PROCESSES * (largest p.proctypes + 2) + MOST_CHANNELS * (most_room p + 2)

-- ---- of what lives

-- how many numbers the messages of a channel may have
abbrev pub room : LiveChannel → ℕ
room o = o.channel.capacity * length o.channel.types

-- there are no more channels than may live, and none has more room than the model says
pub record AreBounded (p : Program) (cs : List LiveChannel) : Type 0 where
  pub few : length cs ≤ MOST_CHANNELS
  pub small : AllByRecursion (λ n. n ≤ most_room p) (map room cs)

-- The store may have as many cells as the model needs, and a `u32` counts all that a run may keep.
pub record IsBounded (p : Program) (store : Contents) (channels : List LiveChannel) : Type 0 where
  pub counted : bound p ≤ 4294967295
  pub most : store.most ≡ most_cells p
  pub live : AreBounded p channels
