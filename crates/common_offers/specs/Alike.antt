-- What is the same for every process: what reads nothing of a process's own, which is its number and its local variables.
use Rattle.std.specs.Prelude.{◌≡◌, ℕ, ℤ, false, List, [], ◌∷◌}
use Rattle.pml_program.specs.declared.expr.Expr.{Expr}
use Rattle.pml_program.specs.declared.expr.Target.{Target}
use Rattle.pml_program.specs.declared.expr.Turn.{Turn}
use Rattle.pml_program.specs.declared.expr.Want.{Want}
use Rattle.promela_process.specs.declared.place.Place.{Place}
use Rattle.promela_process.specs.Expressions.{Reading, val, place, want, turned_by, asked_by}

-- Two readings are the same but for what a process has of its own.
pub record AreAlike (r q : Reading) : Type 0 where
  pub frame : r.frame false ≡ q.frame false
  pub cells : (f v : ℕ) → r.cells f v ≡ q.cells f v
  pub holds : (at : Place) → r.holds at ≡ q.holds at
  pub process_count : r.process_count ≡ q.process_count
  pub timeout : r.timeout ≡ q.timeout
  pub channel : (n : ℤ) → r.channel n ≡ q.channel n

-- every process has the same value of an expression, or the same fault
abbrev pub IsCommon : Expr → Type 0
IsCommon e = (r q : Reading) → AreAlike r q → val e r ≡ val e q

-- a reference leads each to the same place, or to the same fault
abbrev pub IsCommonPlace : Target → Type 0
IsCommonPlace t = (r q : Reading) → AreAlike r q → place t r ≡ place t q

-- a turn leads each as far
abbrev pub IsCommonTurn : Turn → Type 0
IsCommonTurn t = (r q : Reading) → AreAlike r q → turned_by t r ≡ turned_by t q

-- so does each of these
abbrev pub AreCommonTurns : List Turn → Type 0
AreCommonTurns [] = Unit {0}
AreCommonTurns (t ∷ ts) = IsCommonTurn t × AreCommonTurns ts

-- each asks the same of a field
abbrev pub IsCommonWant : Want → Type 0
IsCommonWant w = (r q : Reading) → AreAlike r q → want w r ≡ want w q

-- each asks the same of a message
abbrev pub AreCommonWants : List Want → Type 0
AreCommonWants ws = (r q : Reading) → AreAlike r q → asked_by ws r ≡ asked_by ws q
