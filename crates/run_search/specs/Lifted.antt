-- Words of a state over what may not be there: contracts speak of them, and proofs go through them by cases.
use Rattle.std.specs.Prelude.{ℕ, List, [], Option, Result, Ok, not, Bool, slice_get, option_and_then, ℤ, false}
use Rattle.std.specs.Option.{option_map_or}
use Rattle.diagnostics.specs.declared.fault.Fault.{Fault}
use Rattle.pml_program.specs.declared.program.Seq.{Seq}
use Rattle.pml_program.specs.declared.program.Proctype.{Proctype}
use Rattle.pml_program.specs.declared.program.Program.{Program}
use Rattle.promela_process.specs.Numbers.{is_zero}
use Rattle.promela_process.specs.Expressions.{◌>>=◌}
use Rattle.promela_process.specs.Control.{Control}
use Rattle.promela_process.specs.Offers.{Offer}
use Rattle.promela_run.specs.declared.halt.Halt.{Halt}
use Rattle.promela_run.specs.declared.moves.Move.{Move}
use Rattle.promela_run.specs.declared.moves.Pick.{Pick}
use Rattle.promela_run.specs.State.{Stand, State, body_of, levels, levels_in}
use Rattle.promela_run.specs.Moves.{is_else, moves_at}
use Rattle.promela_run.specs.Steps.{Done, went}

-- an offer of a level by its place, if the level is there
abbrev pub offer_on : Option (List Offer) → ℕ → Option Offer
offer_on o i = option_and_then (λ os. slice_get os i) o

-- the offer of a process, if it is there
abbrev pub offer_at : State → Pick → Option Stand → Option Offer
offer_at s k o = option_and_then (λ y. offer_on (slice_get (levels_in (body_of s.program y.sort) y.control) k.level) k.place) o

-- the offers of a point, if there is one
abbrev pub levels_from : Seq → Option Control → List (List Offer)
levels_from b o = option_map_or (levels b) o []

-- a value is not 0
abbrev pub nonzero : Result ℤ Fault → Result Bool Fault
nonzero v = v >>= λ n. Ok (not (is_zero n))

-- an offer of `else`
abbrev pub is_other : Offer → Bool
is_other o = is_else o.basic

-- the moves of a process, if it is there, while `timeout` is false
abbrev pub moves_if : State → ℕ → Option Stand → List Move
moves_if s p o = option_map_or (moves_at s p false) o []

-- the proctype of a process
abbrev pub sort_of : Program → Option Stand → Option Proctype
sort_of pr o = option_and_then (λ y. slice_get pr.proctypes y.sort) o

-- the line in an offer's text
abbrev pub line_in : Option Offer → ℕ
line_in o = option_map_or (λ o. o.line) o 0

-- that of the closing brace
abbrev pub brace_of : Option Proctype → ℕ
brace_of o = option_map_or (λ q. q.end.line) o 0

-- where a run has stopped there is no move
abbrev pub unless_stopped : Option Halt → List Move → List Move
unless_stopped o ms = option_map_or (λ h. []) o ms

-- a process goes on behind what it did
abbrev pub moved : ℕ → Offer → Done → Result Done Fault
moved p o d = Ok (record d { state = went d.state p o })
