-- Names for what definitions say of an option, as their lemmas speak of it.
use Rattle.std.specs.Prelude.{ℕ, ◌+◌, List, [], length, Option, unwrap_or, option_map}
use Rattle.pml_program.specs.declared.program.Stmt.{Stmt}
use Rattle.pml_program.specs.declared.program.Seq.{Seq}
use Rattle.pml_program.specs.declared.program.Basic.{Basic}
use Rattle.promela_process.specs.Control.{Position, Control, steps, arms, arm, behind, at}

-- the statements of a sequence that may be there
abbrev pub steps_of : Option Seq → List Stmt
steps_of o = unwrap_or (option_map steps o) []

-- a statement without its labels, if there is one
abbrev pub basic_of : Option Stmt → Option Basic
basic_of o = option_map (λ (s : Stmt). s.basic) o

-- an arm of a statement that may be there
abbrev pub arm_of : Option Stmt → ℕ → List Stmt
arm_of o k = unwrap_or (option_map (λ (s : Stmt). arm s.basic k) o) []

-- what is behind an arm of a statement that may be there
abbrev pub behind_of : Position → Option Stmt → ℕ → Control → Control
behind_of p o k c = unwrap_or (option_map (λ (s : Stmt). behind p s.basic k c) o) []

-- what is to do from a position on, if there is one
abbrev pub at_position : List Stmt → Option Position → Control
at_position b o = unwrap_or (option_map (at b) o) []

-- c where there is no move, else what the rest comes to
abbrev pub go_on : Control → Option Control → (Control → Control) → Control
go_on c o rest = unwrap_or (option_map rest o) c

-- two for a statement and one for each of its arms
abbrev pub descents_in : Position × Stmt → ℕ
descents_in e = 2 + length (arms e.1.basic)
