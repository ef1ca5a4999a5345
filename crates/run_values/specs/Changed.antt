-- The places that a step changed, as two states compared, and the line of each.
use Rattle.std.specs.Prelude.{◌≡◌, ℕ, zero, suc, ◌+◌, Bool, List, [], ◌∷◌, ◌++◌, length, take, slice_get, Option, Some, None, ℤ, codes}
use Rattle.std.specs.List.{filter, flat_map}
use Rattle.pml_program.specs.declared.program.Slot.{Slot}
use Rattle.pml_program.specs.declared.program.Proctype.{Proctype}
use Rattle.pml_program.specs.declared.program.Program.{Program}
use Rattle.promela_process.specs.Store.{Frame}
use Rattle.pml_store.specs.Writing.{Contents, before}
use Rattle.run_values.specs.declared.changed.Change.{Change}
use Rattle.promela_run.specs.Lines.{place_line, each_change, heading_of, value_lines}
use Rattle.run_layout.specs.Tables.{slots_of}

-- the cell k of a variable of a frame, and its number now
abbrev pub change : ℕ → ℕ → ℕ → ℤ → Change
change frame variable k number = record { place = record { frame = frame; variable = variable; cell = k }; number = number }

-- the variables of a frame, from this one on
abbrev pub variable_changes : ℕ → ℕ → Frame → Frame → List Change
variable_changes frame n [] after = []
variable_changes frame n (x ∷ xs) [] = []
variable_changes frame n (x ∷ xs) (y ∷ ys) = each_change (λ k v. change frame n k v ∷ []) 0 x y ++ variable_changes frame (n + 1) xs ys

-- the frames from this one on
abbrev pub frame_changes : ℕ → List Frame → List Frame → List Change
frame_changes n [] after = []
frame_changes n (x ∷ xs) [] = []
frame_changes n (x ∷ xs) (y ∷ ys) = variable_changes n 0 x y ++ frame_changes (n + 1) xs ys

-- The places that are there before and after and whose numbers differ, each once: frame by frame, the globals first.
abbrev pub changes : List Frame → List Frame → List Change
changes = frame_changes 0

-- those of a step that led to this store, by its log, in the globals and the variables of the first processes
abbrev pub step_changes : List ℕ → Contents → List Change
step_changes sorts s = changes (take (length sorts + 1) (before s)) s.frames

-- ---- whose they are

-- the process with this frame; the globals' is 0
abbrev pub process_in : ℕ → Option ℕ
process_in zero = None
process_in (suc i) = Some i

-- whether lines are wanted of the globals, or of the processes
abbrev pub wanted_of : Bool → Bool → Option ℕ → Bool
wanted_of globals locals None = globals
wanted_of globals locals (Some i) = locals

-- the changes whose lines are wanted
abbrev pub wanted_changes : Bool → Bool → List Change → List Change
wanted_changes globals locals = filter (λ (c : Change). wanted_of globals locals (process_in c.place.frame))

-- ---- their lines

-- of a variable that is there
abbrev pub slot_line : Program → List ℕ → Option Slot → Change → List ℕ
slot_line p heading None c = []
slot_line p heading (Some s) c = heading ++ place_line p s c.place.cell c.number

-- of the process i, by its proctype
abbrev pub line_by : Program → ℕ → Option Proctype → Change → List ℕ
line_by p i q c = slot_line p (heading_of i q) (slice_get (slots_of q) c.place.variable) c

-- by the number of its proctype in the model
abbrev pub sort_line : Program → ℕ → Option ℕ → Change → List ℕ
sort_line p i None c = []
sort_line p i (Some k) c = line_by p i (slice_get p.proctypes k) c

abbrev pub owner_line : Program → List ℕ → Option ℕ → Change → List ℕ
owner_line p sorts None c = slot_line p (codes "global ") (slice_get p.globals c.place.variable) c
owner_line p sorts (Some i) c = sort_line p i (slice_get sorts i) c

-- the value line of a change: `global PATH = VALUE`, or `local I (NAME) PATH = VALUE`
abbrev pub value_line : Program → List ℕ → Change → List ℕ
value_line p sorts c = owner_line p sorts (process_in c.place.frame) c

-- ---- the law

-- the value lines are those of the changes, as far as they are wanted
abbrev pub LinesOfChanges : Type 0
LinesOfChanges = (p : Program) (sorts : List ℕ) (before after : List Frame) (globals locals : Bool) →
    value_lines p sorts before after globals locals ≡ flat_map (value_line p sorts) (wanted_changes globals locals (changes before after))
