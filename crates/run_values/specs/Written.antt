-- Value lines by the index of a cell among all, and by the log of a step.
use Rattle.std.specs.Prelude.{◌≡◌, ℕ, length, ◌+◌, true, if◌then◌else◌, List, [], ◌∷◌, ◌++◌, map, slice_get, Option, Some, None, ℤ, codes, Bool}
use Rattle.std.specs.Ordering.{int_eq, nat_cmp}
use Rattle.std.specs.BTreeMap.{insert_entry}
use Rattle.pml_program.specs.declared.program.Slot.{Slot}
use Rattle.pml_program.specs.declared.program.Program.{Program}
use Rattle.promela_run.specs.State.{size, slot_of, cell_of}
use Rattle.promela_process.specs.Store.{Cells, Frame}
use Rattle.pml_store.specs.Writing.{Contents, joined, before}
use Rattle.run_values.specs.declared.change.Wanted.{Wanted}
use Rattle.promela_run.specs.Lines.{place_line, Owner, heading_of, owners, cell_line, value_lines}

-- the globals
abbrev pub global_owner : Program → Bool → Owner
global_owner p wanted = record { wanted = wanted; heading = codes "global "; slots = p.globals }

-- the line of a cell of a variable of the process i
abbrev pub local_line : Program → ℕ → ℕ → Slot → ℕ → ℤ → List ℕ
local_line p i sort s cell number = heading_of i (slice_get p.proctypes sort) ++ place_line p s cell number

-- ---- the same by the index of a cell among all

-- a cell's line, by the index
abbrev pub line_at : Program → List Owner → ℕ → ℤ → List ℕ
line_at p [] i number = []
line_at p (o ∷ os) i number = elim (slot_of o.slots i) as (λ _. List ℕ) [
  | None ↦ line_at p os (cell_of o.slots i) number
  | Some s ↦ cell_line p o s (cell_of o.slots i) number
]

-- a cell's line among those of the globals and of processes, where it is wanted
abbrev pub wanted_line : Program → List ℕ → Wanted → ℕ → ℤ → List ℕ
wanted_line p sorts w = line_at p (owners p w.globals w.locals sorts)

-- the line of a cell whose number was another, where it is wanted
abbrev pub changed_line : Program → List ℕ → Wanted → ℕ → ℤ × ℤ → List ℕ
changed_line p sorts w i numbers = if int_eq numbers.0 numbers.1 then [] else wanted_line p sorts w i numbers.1

-- an owner's variables have the cells that their declarations ask for
abbrev pub IsFrame : List Slot → Frame → Type 0
IsFrame ss f = map length f ≡ map size ss

-- so have those of each owner that is there
abbrev pub AreFrames : List Owner → List Frame → Type 0
AreFrames os [] = Unit {0}
AreFrames [] (f ∷ fs) = Unit {0}
AreFrames (o ∷ os) (f ∷ fs) = IsFrame o.slots f × AreFrames os fs

-- each owner's variables have the cells that the model asks for
abbrev pub AreDeclared : Program → List ℕ → List Frame → Type 0
AreDeclared p sorts frames = AreFrames (owners p true true sorts) frames

-- a state whose cells are these, owner by owner
pub record IsState (p : Program) (sorts : List ℕ) (frames : List Frame) (cells : List ℤ) : Type 0 where
  pub numbers : joined frames ≡ cells
  pub declared : AreDeclared p sorts frames

-- where both are states of the model, this is what value lines are appended
abbrev pub AddsChanges : Program → List ℕ → Wanted → List ℤ → List ℤ → (List ℕ → Type 0) → Type 0
AddsChanges p sorts w old new Adds = (b a : List Frame) → IsState p sorts b old → IsState p sorts a new →
    Adds (value_lines p sorts b a w.globals w.locals)

-- ---- a log of writes

-- the oldest number of each cell of a log, by index
abbrev pub oldest : List (ℕ × ℤ) → List (ℕ × ℤ)
oldest [] = []
oldest (w ∷ ws) = insert_entry nat_cmp (oldest ws) w.0 w.1

-- what is made of a cell that was written, by its index and its number before, if it is still there and its number is another now
abbrev pub if_changed : {A : Type 0} → (ℕ → ℤ → List A) → ℕ × ℤ → Option ℤ → List A
if_changed f w None = []
if_changed f w (Some number) = if int_eq w.1 number then [] else f w.0 number

abbrev pub each_write : {A : Type 0} → (ℕ → ℤ → List A) → Cells → List (ℕ × ℤ) → List A
each_write f cells [] = []
each_write f cells (w ∷ ws) = if_changed f w (slice_get cells w.0) ++ each_write f cells ws

-- the value lines of the step that led to this store, by its log
abbrev pub step_lines : Program → List ℕ → Contents → Wanted → List ℕ
step_lines p sorts s w = value_lines p sorts (before s) s.frames w.globals w.locals

-- where the processes are those of a store, the value lines of the step that led to it are appended
abbrev pub AddsStep : Program → List ℕ → Wanted → Contents → (List ℕ → Type 0) → Type 0
AddsStep p sorts w s Adds = AreDeclared p sorts s.frames → Adds (step_lines p sorts s w)
