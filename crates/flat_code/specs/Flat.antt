-- Flat code: what it is worth, and what it stands for.
use Rattle.std.specs.Prelude.{◌≡◌, ℕ, ◌+◌, ◌<◌, Bool, not, true, List, length, map, take, sum, ℤ, pos, slice_index_or, Option, Some, None, Result, Ok}
use Rattle.diagnostics.specs.declared.fault.Fault.{Fault}
use Rattle.pml_program.specs.declared.expr.Expr.{Expr}
use Rattle.pml_program.specs.declared.expr.Target.{Target, out-Target}
use Rattle.pml_program.specs.declared.form.Form.TheVariants.{Plain as Kept}
use Rattle.pml_tree.specs.declared.tree.Scalar.{Scalar}
use Rattle.pml_program.specs.declared.program.Action.{Action}
use Rattle.pml_program.specs.declared.program.Action.TheVariants.{Assign}
use Rattle.pml_program.specs.declared.program.Basic.{Basic, Plain as Statement}
use Rattle.pml_program.specs.declared.program.Slot.{Slot}
use Rattle.promela_process.specs.declared.place.Place.{Place}
use Rattle.promela_process.specs.Store.{Frame, frame_at}
use Rattle.promela_process.specs.Numbers.{clipped, infixed, is_zero}
use Rattle.promela_process.specs.Expressions.{Reading, val, place, ◌>>=◌}
use Rattle.pml_store.specs.Writing.{HasPlace, joined, index_of}
use Rattle.promela_run.specs.declared.live_channel.LiveChannel.{LiveChannel}
use Rattle.promela_run.specs.State.{size, reading_of}
use Rattle.promela_run.specs.Statements.{increased, outcome}
use Rattle.promela_run.specs.Moves.{ready}
use Rattle.flat_code.specs.declared.code.FlatCell.{FlatCell}
use Rattle.flat_code.specs.declared.code.FlatCell.TheVariants.{Global, Local}
use Rattle.flat_code.specs.declared.code.Operand.{Operand}
use Rattle.flat_code.specs.declared.code.Operand.TheVariants as operand
use Rattle.flat_code.specs.declared.code.FlatWorth.{FlatWorth}
use Rattle.flat_code.specs.declared.code.FlatWorth.TheVariants.{Plain, Pair}
use Rattle.flat_code.specs.declared.code.FlatCode.{FlatCode}
use Rattle.flat_code.specs.declared.code.FlatCode.TheVariants.{No, Set, Ask, Wide}

-- ---- what it is worth, where all cells are these and those of the process begin here

-- where a cell is among all
abbrev pub index : ℕ → FlatCell → ℕ
index base (Global at) = at
index base (Local at) = base + at

-- what an operand is worth
abbrev pub number : List ℤ → ℕ → Operand → ℤ
number cells base (operand.Number n) = n
number cells base (operand.Global at) = slice_index_or cells at (pos 0)
number cells base (operand.Local at) = slice_index_or cells (base + at) (pos 0)

-- what a cell holds
abbrev pub held : FlatCell → Operand
held (Global at) = operand.Global at
held (Local at) = operand.Local at

abbrev pub worth : List ℤ → ℕ → FlatWorth → Result ℤ Fault
worth cells base (Plain a) = Ok (number cells base a)
worth cells base (Pair op a b) = infixed op (number cells base a) (number cells base b)

-- the cells are there
abbrev pub IsIn : List ℤ → ℕ → Operand → Type 0
IsIn cells base (operand.Number n) = Unit {0}
IsIn cells base (operand.Global at) = at < length cells
IsIn cells base (operand.Local at) = base + at < length cells

abbrev pub AreIn : List ℤ → ℕ → FlatWorth → Type 0
AreIn cells base (Plain a) = IsIn cells base a
AreIn cells base (Pair op a b) = IsIn cells base a × IsIn cells base b

-- ---- what it stands for

-- how many cells a variable has
abbrev pub cells_in : List Slot → ℕ → ℕ
cells_in ss variable = slice_index_or (map size ss) variable 0

-- where a variable begins among its owner's cells
abbrev pub start : List Slot → ℕ → ℕ
start ss variable = sum (take variable (map size ss))

-- the frames of the globals and of a process are as these variables are declared
pub record Fits (gs ls : List Slot) (frames : List Frame) (process : ℕ) : Type 0 where
  pub globals : map length (frame_at frames 0) ≡ map size gs
  pub locals : map length (frame_at frames (process + 1)) ≡ map size ls

-- where the cells of a process begin
abbrev pub base_of : List Frame → ℕ → ℕ
base_of frames process = length (joined (take (process + 1) frames))

-- it is so wherever frames are as these variables are declared: of the frames, of where the cells of the process begin, and of what it reads
abbrev pub Always : List Slot → List Slot → (List Frame → ℕ → Reading → Type 0) → Type 0
Always gs ls P = (frames : List Frame) (cs : List LiveChannel) (process count : ℕ) (timeout : Bool) → Fits gs ls frames process
    → P frames (base_of frames process) (reading_of frames cs process count timeout)

-- a target leads to this cell of its variable, where the variable has it
abbrev pub IsPlain : Target → ℕ → Type 0
IsPlain t cell = (r : Reading) → let x = out-Target t in cell < r.cells (r.frame x.local) x.variable
    → place t r ≡ Ok (record { frame = r.frame x.local; variable = x.variable; cell = cell })

-- a target leads to the place at this cell
pub record Leads (frames : List Frame) (base : ℕ) (r : Reading) (t : Target) (c : FlatCell) : Type 0 where
  pub at : Place
  pub leads : place t r ≡ Ok at
  pub there : HasPlace frames at
  pub stands : index_of frames at ≡ index base c

abbrev pub IsCell : List Slot → List Slot → Target → FlatCell → Type 0
IsCell gs ls t c = Always gs ls (λ frames base r. Leads frames base r t c)

-- an expression is worth what an operand is
pub record Gives (frames : List Frame) (base : ℕ) (r : Reading) (e : Expr) (a : Operand) : Type 0 where
  pub value : val e r ≡ Ok (number (joined frames) base a)
  pub within : IsIn (joined frames) base a

abbrev pub IsOperand : List Slot → List Slot → Expr → Operand → Type 0
IsOperand gs ls e a = Always gs ls (λ frames base r. Gives frames base r e a)

pub record Comes (frames : List Frame) (base : ℕ) (r : Reading) (e : Expr) (v : FlatWorth) : Type 0 where
  pub value : val e r ≡ worth (joined frames) base v
  pub within : AreIn (joined frames) base v

abbrev pub IsWorth : List Slot → List Slot → Expr → FlatWorth → Type 0
IsWorth gs ls e v = Always gs ls (λ frames base r. Comes frames base r e v)

-- a statement stores what is kept of a number, and waits for nothing
pub record Stores (frames : List Frame) (base : ℕ) (r : Reading) (x : Action) (word : Scalar) (c : FlatCell) (v : FlatWorth) : Type 0 where
  pub at : Place
  pub there : HasPlace frames at
  pub stands : index_of frames at ≡ index base c
  pub within : AreIn (joined frames) base v
  pub does : outcome x r ≡ (worth (joined frames) base v >>= λ n. Ok (Some (record { place = at; number = clipped (Kept word) n })))
  pub free : (lossy : Bool) (cs : List LiveChannel) (in_d_step : Bool) → ready lossy cs r in_d_step x ≡ Ok true

-- a statement asks whether a number is not 0
pub record Asks (frames : List Frame) (base : ℕ) (r : Reading) (x : Action) (v : FlatWorth) : Type 0 where
  pub within : AreIn (joined frames) base v
  pub does : outcome x r ≡ (worth (joined frames) base v >>= λ n. Ok None)
  pub asks : (lossy : Bool) (cs : List LiveChannel) (in_d_step : Bool) → ready lossy cs r in_d_step x ≡ (worth (joined frames) base v >>= λ n. Ok (not (is_zero n)))

-- the code of a statement without a structure; what names a wide code is none by itself
abbrev pub IsCode : List Slot → List Slot → Action → FlatCode → Type 0
IsCode gs ls x No = Unit {0}
IsCode gs ls x (Set word c v) = Always gs ls (λ frames base r. Stores frames base r x word c v)
IsCode gs ls x (Ask v) = Always gs ls (λ frames base r. Asks frames base r x v)
IsCode gs ls x (Wide at) = ⊥

-- a target keeps this word of a number, in this cell
abbrev pub IsKept : List Slot → List Slot → Target → Scalar → FlatCell → Type 0
IsKept gs ls t word c = ((out-Target t).form ≡ Kept word) × IsCell gs ls t c

-- the code of an assignment to a variable
abbrev pub IsSet : List Slot → List Slot → Target → Expr → FlatCode → Type 0
IsSet gs ls t e code = IsCode gs ls (Assign (Some t) e) code

-- the code of what adds this to a variable, and waits for nothing
abbrev pub IsCounted : List Slot → List Slot → Target → ℤ → FlatCode → Type 0
IsCounted gs ls t by code = (x : Action) → ((r : Reading) → outcome x r ≡ increased t by r)
    → ((lossy : Bool) (cs : List LiveChannel) (r : Reading) (in_d_step : Bool) → ready lossy cs r in_d_step x ≡ Ok true) → IsCode gs ls x code

-- the code of a statement: one that gives a structure, and a place where none is, has none
abbrev pub IsCodeOf : List Slot → List Slot → Option Basic → FlatCode → Type 0
IsCodeOf gs ls (Some (Statement x)) code = IsCode gs ls x code
IsCodeOf gs ls o code = code ≡ No
