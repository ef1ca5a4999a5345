-- The flat codes of statements.
use Rattle.std.specs.Prelude.{◌≡◌, ℕ, ◌+◌, List, [], length, Option, Some, None, option_map, slice_get, slice_index_or}
use Rattle.std.specs.Option.{option_map_or}
use Rattle.pml_program.specs.declared.program.Basic.{Basic}
use Rattle.pml_program.specs.declared.program.Stmt.{Stmt}
use Rattle.pml_program.specs.declared.program.Slot.{Slot}
use Rattle.pml_program.specs.declared.program.Program.{Program}
use Rattle.pml_flow.specs.Graph.{Graph}
use Rattle.promela_run.specs.State.{Stand, State, variables_at}
use Rattle.promela_run.specs.Steps.{body_by}
use Rattle.flat_code.specs.declared.code.FlatCode.{FlatCode}
use Rattle.flat_code.specs.declared.code.FlatCode.TheVariants.{No, Wide}
use Rattle.flat_code.specs.declared.wide.WideCode.{WideCode}
use Rattle.flat_code.specs.Flat.{IsCodeOf}
use Rattle.flat_code.specs.Wide.{CodeTable, IsEntry, IsWideCodeOf}
use Rattle.run_state.specs.declared.body.Body.{Body}
use Rattle.run_state.specs.Standing.{seq_of, statements_of, IsPlayed}

-- the statement with a number, without its labels
abbrev pub basic_in : List (Option Stmt) → ℕ → Option Basic
basic_in ss n = option_map (λ s. s.basic) (slice_index_or ss n None)

-- the statements of the proctype with this number
abbrev pub statements_at : Program → ℕ → List (Option Stmt)
statements_at p k = option_map_or (λ q. statements_of q.body) (slice_get p.proctypes k) []

-- no codes
abbrev pub no_table : CodeTable
no_table = record { codes = []; wide = [] }

-- the codes of a table are those of statements
abbrev pub AreCodes : List Slot → List Slot → List (Option Stmt) → CodeTable → Type 0
AreCodes gs ls ss t = (n : ℕ) → IsEntry gs ls t.wide (basic_in ss n) (slice_index_or t.codes n No)

-- a table has the code of this statement more
pub record AddsCode (gs ls : List Slot) (o : Option Basic) (old new : CodeTable) : Type 0 where
  pub counted : length new.codes ≡ length old.codes + 1
  pub are : (ss : List (Option Stmt)) → basic_in ss (length old.codes) ≡ o → AreCodes gs ls ss old → AreCodes gs ls ss new

-- of each proctype
abbrev pub AreAllCodes : Program → List CodeTable → Type 0
AreAllCodes p ts = (k : ℕ) → AreCodes p.globals (variables_at p k) (statements_at p k) (slice_index_or ts k no_table)

-- graphs, statements and codes are those of the proctypes
pub record IsPrepared (p : Program) (gs : List Graph) (ss : List (List (Option Stmt))) (ts : List CodeTable) : Type 0 where
  pub played : IsPlayed p gs ss
  pub codes : AreAllCodes p ts

-- a process stands in this body
abbrev pub HasBody : State → ℕ → Body → Type 0
HasBody s process k = body_by s (slice_get s.stands process) ≡ Some (seq_of k)

-- the statement with this number of the proctype of a process is this, without its labels
abbrev pub IsNumbered : State → ℕ → ℕ → Option Basic → Type 0
IsNumbered s process n o = (y : Stand) → slice_get s.stands process ≡ Some y → basic_in (statements_at s.program y.sort) n ≡ o

-- it is the code of a statement, or names a wide code, which has it
abbrev pub IsFlatOf : List Slot → List Slot → Option Basic → FlatCode → Type 0
IsFlatOf gs ls o (Wide at) = Unit {0}
IsFlatOf gs ls o code = IsCodeOf gs ls o code

-- it is the code of the statement with this number of the proctype of a process
abbrev pub IsCodeIn : State → ℕ → ℕ → FlatCode → Type 0
IsCodeIn s process n code = (y : Stand) → slice_get s.stands process ≡ Some y
    → IsFlatOf s.program.globals (variables_at s.program y.sort) (basic_in (statements_at s.program y.sort) n) code

-- it is the wide code of this statement
abbrev pub IsWideIn : State → ℕ → ℕ → WideCode → Type 0
IsWideIn s process n code = (y : Stand) → slice_get s.stands process ≡ Some y
    → IsWideCodeOf s.program.globals (variables_at s.program y.sort) (basic_in (statements_at s.program y.sort) n) code
