-- The cells of a state, frame by frame: the globals' frame is 0.
use Rattle.std.specs.Prelude.{ℕ, Bool, true, false, if◌then◌else◌, length, List, [], map, Option, Some, None, ℤ, slice_get}
use Rattle.std.specs.List.{flat_map, range_with_len}
use Rattle.pml_token.specs.Word.{Word}
use Rattle.pml_tree.specs.declared.tree.Scalar.TheVariants as scalar
use Rattle.pml_program.specs.declared.form.Form.{Form}
use Rattle.pml_program.specs.declared.form.Form.TheVariants as kind
use Rattle.pml_program.specs.declared.program.Slot.{Slot}
use Rattle.pml_program.specs.declared.program.Fields.{Fields}
use Rattle.pml_program.specs.declared.program.Program.{Program}
use Rattle.promela_run.specs.State.{leaf, State}
use Rattle.promela_process.specs.declared.place.Place.{Place}
use Rattle.promela_process.specs.Store.{size_at}
use Rattle.promela_run.specs.Lines.{mtype_numbered, path}
use Rattle.run_values.specs.Changed.{process_in}
use Rattle.promela_run.specs.World.{sort_of_process}
use Rattle.run_layout.specs.Tables.{slots_of}

-- the globals, or the variables of a process
abbrev pub variables_by : State → Option ℕ → List Slot
variables_by s None = s.program.globals
variables_by s (Some p) = slots_of (sort_of_process s p)

-- the variables of a frame
abbrev pub variables : State → ℕ → List Slot
variables s frame = variables_by s (process_in frame)

-- the variable of a place
abbrev pub variable_of : State → Place → Option Slot
variable_of s p = slice_get (variables s p.frame) p.variable

abbrev pub form_by : List Fields → Option Slot → ℕ → Form
form_by ts None cell = kind.Unknown
form_by ts (Some v) cell = (leaf ts v cell).form

-- the type of a cell
abbrev pub form_of : State → Place → Form
form_of s p = form_by s.program.typedefs (variable_of s p) p.cell

abbrev pub path_by : Program → Option Slot → ℕ → List ℕ
path_by pr None cell = []
path_by pr (Some v) cell = path pr v cell

-- the path of a cell within its owner
abbrev pub path_of : State → Place → List ℕ
path_of s p = path_by s.program (variable_of s p) p.cell

abbrev pub place : ℕ → ℕ → ℕ → Place
place frame variable cell = record { frame = frame; variable = variable; cell = cell }

-- the cells of a variable
abbrev pub cells_of : State → ℕ → ℕ → List Place
cells_of s frame variable = map (place frame variable) (range_with_len 0 (size_at s.frames frame variable))

-- The cells of a frame, variable by variable.
abbrev pub cells_in : State → ℕ → List Place
cells_in s frame = flat_map (cells_of s frame) (range_with_len 0 (length (variables s frame)))

-- whether the numbers of a type are those of channels
abbrev pub is_chan : Form → Bool
is_chan (kind.Plain scalar.Chan) = true
is_chan f = false

-- whether they have names
abbrev pub is_mtype : Form → Bool
is_mtype (kind.Plain scalar.Mtype) = true
is_mtype f = false

-- the name of a number of this type: an mtype's alone have names
abbrev pub mtype_name : Program → Form → ℤ → Option Word
mtype_name pr f n = if is_mtype f then mtype_numbered pr.constants n else None
