-- The fields of a message, each evaluated by itself.
use Rattle.std.specs.Prelude.{map, List, ℤ, pos, Result, Ok, Err}
use Rattle.diagnostics.specs.declared.fault.Fault.{Fault}
use Rattle.pml_program.specs.declared.expr.Expr.{Expr}
use Rattle.promela_process.specs.Expressions.{Reading, val}

-- a value, or 0 where there is none
abbrev pub worth : Result ℤ Fault → ℤ
worth (Ok v) = v
worth (Err f) = pos 0

abbrev pub worths : List Expr → Reading → List ℤ
worths es r = map (λ e. worth (val e r)) es

-- whether all have a value, or the first fault
abbrev pub evaluated : Result (List ℤ) Fault → Result (Unit {0}) Fault
evaluated (Ok vs) = Ok tt
evaluated (Err f) = Err f
