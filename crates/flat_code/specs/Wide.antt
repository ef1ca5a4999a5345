-- Wide code: what it is worth, and what it stands for.
use Rattle.std.specs.Prelude.{◌≡◌, ℕ, ◌+◌, ◌<◌, ◌≤◌, Bool, true, not, List, [], ◌∷◌, ◌++◌, length, ℤ, pos, slice_get, slice_index_or, if◌then◌else◌, nat_lt, Option, Some, None, option_and_then, option_map, unwrap_or, Result, Ok, Err}
use Rattle.diagnostics.specs.declared.fault.Fault.{Fault}
use Rattle.pml_program.specs.declared.expr.Expr.{Expr}
use Rattle.pml_program.specs.declared.expr.Target.{Target, out-Target}
use Rattle.pml_program.specs.declared.form.Form.TheVariants.{Plain as Kept}
use Rattle.pml_tree.specs.declared.tree.Scalar.{Scalar}
use Rattle.pml_program.specs.declared.program.Action.{Action}
use Rattle.pml_program.specs.declared.program.Action.TheVariants.{Assign}
use Rattle.pml_program.specs.declared.program.Basic.{Basic, Plain as Statement}
use Rattle.pml_program.specs.declared.program.Slot.{Slot}
use Rattle.promela_process.specs.declared.place.Place.{Place}
use Rattle.promela_process.specs.Store.{Frame, size_at}
use Rattle.promela_process.specs.Numbers.{clipped, decided, infixed, is_zero}
use Rattle.promela_process.specs.Expressions.{Reading, val, place, index_inside, ◌>>=◌}
use Rattle.pml_store.specs.Writing.{HasPlace, joined, index_of}
use Rattle.promela_run.specs.declared.goes.Goes.{Goes}
use Rattle.promela_run.specs.declared.live_channel.LiveChannel.{LiveChannel}
use Rattle.promela_run.specs.Statements.{increased, outcome}
use Rattle.promela_run.specs.Moves.{ready}
use Rattle.flat_code.specs.declared.code.FlatCell.{FlatCell}
use Rattle.flat_code.specs.declared.code.FlatCode.{FlatCode}
use Rattle.flat_code.specs.declared.code.FlatCode.TheVariants.{No, Wide}
use Rattle.flat_code.specs.declared.wide.WideIndex.{WideIndex}
use Rattle.flat_code.specs.declared.wide.WideIndex.TheVariants as index
use Rattle.flat_code.specs.declared.wide.FlatElement.{FlatElement}
use Rattle.flat_code.specs.declared.wide.WideCell.{WideCell}
use Rattle.flat_code.specs.declared.wide.WideCell.TheVariants.{Cell, Element}
use Rattle.flat_code.specs.declared.wide.WideOperand.{WideOperand}
use Rattle.flat_code.specs.declared.wide.WideOperand.TheVariants.{Number, Pid, Held}
use Rattle.flat_code.specs.declared.wide.WideWorth.{WideWorth}
use Rattle.flat_code.specs.declared.wide.WideWorth.TheVariants.{Plain, Pair}
use Rattle.flat_code.specs.declared.wide.WideCode.{WideCode}
use Rattle.flat_code.specs.declared.wide.WideCode.TheVariants.{Set, Ask}
use Rattle.flat_code.specs.declared.wide.FlatStore.{FlatStore}
use Rattle.flat_code.specs.Flat as flat

-- ---- what it is worth, where all cells are these, those of the process begin here, and the process has this number

abbrev pub index_worth : List ℤ → ℕ → ℤ → WideIndex → Result ℤ Fault
index_worth cells base pid index.Pid = Ok pid
index_worth cells base pid (index.Worth v) = flat.worth cells base v

-- where an element is among all cells, or the fault of its index
abbrev pub element_at : List ℤ → ℕ → ℤ → FlatElement → Result ℕ Fault
element_at cells base pid e = index_worth cells base pid e.index >>= index_inside e.length >>= λ i. Ok (flat.index base e.first + i)

abbrev pub wide_at : List ℤ → ℕ → ℤ → WideCell → Result ℕ Fault
wide_at cells base pid (Cell c) = Ok (flat.index base c)
wide_at cells base pid (Element e) = element_at cells base pid e

abbrev pub wide_number : List ℤ → ℕ → ℤ → WideOperand → Result ℤ Fault
wide_number cells base pid (Number n) = Ok n
wide_number cells base pid Pid = Ok pid
wide_number cells base pid (Held c) = wide_at cells base pid c >>= λ i. Ok (slice_index_or cells i (pos 0))

-- the right operand is not evaluated where the left one decides
abbrev pub wide_worth : List ℤ → ℕ → ℤ → WideWorth → Result ℤ Fault
wide_worth cells base pid (Plain a) = wide_number cells base pid a
wide_worth cells base pid (Pair op a b) =
    wide_number cells base pid a >>= λ x. unwrap_or (option_map Ok (decided op x)) (wide_number cells base pid b >>= λ y. infixed op x y)

-- what is stored, if anything: the value, and then where it goes
abbrev pub wide_store : List ℤ → ℕ → ℤ → WideCode → Result (Option FlatStore) Fault
wide_store cells base pid (Set word c v) =
    wide_worth cells base pid v >>= λ n. wide_at cells base pid c >>= λ i. Ok (Some (record { at = i; number = clipped (Kept word) n }))
wide_store cells base pid (Ask v) = wide_worth cells base pid v >>= λ n. Ok None

-- whether it can be taken: a store waits for nothing
abbrev pub wide_ready : List ℤ → ℕ → ℤ → WideCode → Result Bool Fault
wide_ready cells base pid (Set word c v) = Ok true
wide_ready cells base pid (Ask v) = wide_worth cells base pid v >>= λ n. Ok (not (is_zero n))

-- the cells are there
abbrev pub IsIndexIn : List ℤ → ℕ → WideIndex → Type 0
IsIndexIn cells base index.Pid = Unit {0}
IsIndexIn cells base (index.Worth v) = flat.AreIn cells base v

pub record IsElementIn (cells : List ℤ) (base : ℕ) (e : FlatElement) : Type 0 where
  pub index : IsIndexIn cells base e.index
  pub elements : flat.index base e.first + e.length ≤ length cells

abbrev pub IsCellIn : List ℤ → ℕ → WideCell → Type 0
IsCellIn cells base (Cell c) = flat.index base c < length cells
IsCellIn cells base (Element e) = IsElementIn cells base e

abbrev pub IsOperandIn : List ℤ → ℕ → WideOperand → Type 0
IsOperandIn cells base (Held c) = IsCellIn cells base c
IsOperandIn cells base a = Unit {0}

abbrev pub AreOperandsIn : List ℤ → ℕ → WideWorth → Type 0
AreOperandsIn cells base (Plain a) = IsOperandIn cells base a
AreOperandsIn cells base (Pair op a b) = IsOperandIn cells base a × IsOperandIn cells base b

abbrev pub AreCellsIn : List ℤ → ℕ → WideCode → Type 0
AreCellsIn cells base (Set word c v) = IsCellIn cells base c × AreOperandsIn cells base v
AreCellsIn cells base (Ask v) = AreOperandsIn cells base v

-- ---- what it stands for

-- an index among all cells is that of a place that is there, or both have the same fault
abbrev pub IsPlaced : List Frame → Result ℕ Fault → Result Place Fault → Type 0
IsPlaced frames (Ok i) (Ok p) = HasPlace frames p × (index_of frames p ≡ i)
IsPlaced frames (Err e) (Err f) = f ≡ e
IsPlaced frames _ _ = ⊥

-- the same of what is stored
abbrev pub IsStored : List Frame → Result (Option FlatStore) Fault → Result (Option Goes) Fault → Type 0
IsStored frames (Ok None) (Ok None) = Unit {0}
IsStored frames (Ok (Some s)) (Ok (Some g)) = HasPlace frames g.place × (index_of frames g.place ≡ s.at) × (g.number ≡ s.number)
IsStored frames (Err e) (Err f) = f ≡ e
IsStored frames _ _ = ⊥

-- a variable has so many cells from this one on, which is there among its owner's
pub record AreOwned (ss : List Slot) (variable offset count at : ℕ) : Type 0 where
  pub some : 0 < count
  pub cells : offset + count ≤ flat.cells_in ss variable
  pub first : at ≡ flat.start ss variable + offset

-- so many cells of a variable of a frame, from this one on, are there, and stand one behind another from a cell on
pub record Spans (frames : List Frame) (base frame variable offset count : ℕ) (c : FlatCell) : Type 0 where
  pub some : 0 < size_at frames frame variable
  pub below : (i : ℕ) → i < count → offset + i < size_at frames frame variable
  pub stands : (i : ℕ) → i < count → index_of frames (record { frame = frame; variable = variable; cell = offset + i }) ≡ flat.index base c + i
  pub end : flat.index base c + count ≤ length (joined frames)

-- the same of a target's variable
abbrev pub AreCells : List Slot → List Slot → Target → ℕ → ℕ → FlatCell → Type 0
AreCells gs ls t offset count c = flat.Always gs ls (λ frames base r. Spans frames base (r.frame (out-Target t).local) (out-Target t).variable offset count c)

pub record Indexes (frames : List Frame) (base : ℕ) (r : Reading) (e : Expr) (x : WideIndex) : Type 0 where
  pub value : val e r ≡ index_worth (joined frames) base r.pid x
  pub within : IsIndexIn (joined frames) base x

abbrev pub IsWideIndex : List Slot → List Slot → Expr → WideIndex → Type 0
IsWideIndex gs ls e x = flat.Always gs ls (λ frames base r. Indexes frames base r e x)

-- a target leads to this cell
pub record WideLeads (frames : List Frame) (base : ℕ) (r : Reading) (t : Target) (c : WideCell) : Type 0 where
  pub place : IsPlaced frames (wide_at (joined frames) base r.pid c) (place t r)
  pub within : IsCellIn (joined frames) base c

abbrev pub IsWideCell : List Slot → List Slot → Target → WideCell → Type 0
IsWideCell gs ls t c = flat.Always gs ls (λ frames base r. WideLeads frames base r t c)

-- an expression is worth what an operand is
pub record WideGives (frames : List Frame) (base : ℕ) (r : Reading) (e : Expr) (a : WideOperand) : Type 0 where
  pub value : val e r ≡ wide_number (joined frames) base r.pid a
  pub within : IsOperandIn (joined frames) base a

abbrev pub IsWideOperand : List Slot → List Slot → Expr → WideOperand → Type 0
IsWideOperand gs ls e a = flat.Always gs ls (λ frames base r. WideGives frames base r e a)

pub record WideComes (frames : List Frame) (base : ℕ) (r : Reading) (e : Expr) (v : WideWorth) : Type 0 where
  pub value : val e r ≡ wide_worth (joined frames) base r.pid v
  pub within : AreOperandsIn (joined frames) base v

abbrev pub IsWideWorth : List Slot → List Slot → Expr → WideWorth → Type 0
IsWideWorth gs ls e v = flat.Always gs ls (λ frames base r. WideComes frames base r e v)

-- a statement stores what a code does, and can be taken where it can
pub record Acts (frames : List Frame) (base : ℕ) (r : Reading) (x : Action) (code : WideCode) : Type 0 where
  pub within : AreCellsIn (joined frames) base code
  pub does : IsStored frames (wide_store (joined frames) base r.pid code) (outcome x r)
  pub asks : (lossy : Bool) (cs : List LiveChannel) (in_d_step : Bool) → ready lossy cs r in_d_step x ≡ wide_ready (joined frames) base r.pid code

-- the code of a statement without a structure
abbrev pub IsWideCode : List Slot → List Slot → Action → WideCode → Type 0
IsWideCode gs ls x code = flat.Always gs ls (λ frames base r. Acts frames base r x code)

-- a target keeps this word of a number, in this cell
abbrev pub IsWideKept : List Slot → List Slot → Target → Scalar → WideCell → Type 0
IsWideKept gs ls t word c = ((out-Target t).form ≡ Kept word) × IsWideCell gs ls t c

-- the code of an assignment to a variable
abbrev pub IsWideSet : List Slot → List Slot → Target → Expr → WideCode → Type 0
IsWideSet gs ls t e code = IsWideCode gs ls (Assign (Some t) e) code

-- the code of what adds this to a variable, and waits for nothing
abbrev pub IsWideCounted : List Slot → List Slot → Target → ℤ → WideCode → Type 0
IsWideCounted gs ls t by code = (x : Action) → ((r : Reading) → outcome x r ≡ increased t by r)
    → ((lossy : Bool) (cs : List LiveChannel) (r : Reading) (in_d_step : Bool) → ready lossy cs r in_d_step x ≡ Ok true) → IsWideCode gs ls x code

-- the code of a statement: one that gives a structure, and a place where none is, has none
abbrev pub IsWideCodeOf : List Slot → List Slot → Option Basic → WideCode → Type 0
IsWideCodeOf gs ls (Some (Statement x)) code = IsWideCode gs ls x code
IsWideCodeOf gs ls o code = ⊥

-- ---- a table of codes

-- codes by number, and the wide codes that some of them name
pub record CodeTable : Type 0 where
  pub codes : List FlatCode
  pub wide : List WideCode

-- the wide code that a code names
abbrev pub wide_named : List WideCode → FlatCode → Option WideCode
wide_named ws (Wide at) = slice_get ws at
wide_named ws code = None

-- the wide code with a number, if it has one
abbrev pub wide_of : CodeTable → ℕ → Option WideCode
wide_of t n = option_and_then (wide_named t.wide) (slice_get t.codes n)

-- a wide code more, where it can be named; else no code more
abbrev pub with_wide : CodeTable → WideCode → CodeTable
with_wide t code =
    if nat_lt (length t.wide) 65536 then record { codes = t.codes ++ Wide (length t.wide) ∷ []; wide = t.wide ++ code ∷ [] }
    else record t { codes = t.codes ++ No ∷ [] }

-- a wide code is there, and is that of a statement
abbrev pub IsNamed : List Slot → List Slot → Option Basic → Option WideCode → Type 0
IsNamed gs ls o None = ⊥
IsNamed gs ls o (Some code) = IsWideCodeOf gs ls o code

-- a code of a table is that of a statement, by itself or by the wide code that it names
abbrev pub IsEntry : List Slot → List Slot → List WideCode → Option Basic → FlatCode → Type 0
IsEntry gs ls ws o (Wide at) = IsNamed gs ls o (slice_get ws at)
IsEntry gs ls ws o code = flat.IsCodeOf gs ls o code
