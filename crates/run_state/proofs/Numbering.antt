-- Statements of the body in which a process stands, by their numbers.
use Rattle.std.proofs.Common.{◌≡◌, ℕ, List, [], Option, Some, None, sym, ap, ◌∙◌, slice_get}
use Rattle.std.specs.Prelude.{option_map}
use Rattle.std.specs.Option.{option_map_or}
use Rattle.pml_flow.specs.declared.edge.Edge.{Edge}
use Rattle.pml_program.specs.declared.program.Stmt.{Stmt}
use Rattle.pml_program.specs.declared.program.Seq.{Seq}
use Rattle.pml_program.specs.declared.program.Proctype.{Proctype}
use Rattle.pml_program.specs.declared.program.Program.{Program}
use Rattle.promela_run.specs.State.{State, body_of}
use Rattle.promela_run.specs.Steps.{body_by}
use Rattle.run_state.specs.declared.body.Body.{Body}
use Rattle.run_state.specs.declared.seat.Seat.{Seat}
use Rattle.run_state.specs.Standing.{stand_of, statements_of, seq_of, shows, IsBody, StandsIn}
use Rattle.run_state.specs.Coded.{basic_in, statements_at, HasBody, IsNumbered}
use Rattle.run_state.proofs.Placing.{statement_shown}

by_proctype : (o : Option Proctype) (b : Seq) → option_map (λ (q : Proctype). q.body) o ≡ Some b → option_map_or (λ (q : Proctype). statements_of q.body) o [] ≡ statements_of b
by_proctype None b h = cc
by_proctype (Some q) b h = let e : q.body ≡ b = cc in ap statements_of e

statements_are : (p : Program) (k : ℕ) (b : Seq) → body_of p k ≡ Some b → statements_at p k ≡ statements_of b
statements_are p k b h = by_proctype (slice_get p.proctypes k) b h

-- the number of an edge is that of its offer's statement
pub numbered : (s : State) (process : ℕ) (k : Body) (e : Edge) → IsBody k → HasBody s process k → IsNumbered s process e.statement (shows k e).basic
numbered s process k e is stands y h =
    let b : body_of s.program y.sort ≡ Some (seq_of k) = sym (ap (body_by s) h) ∙ stands in
    ap (λ (ss : List (Option Stmt)). basic_in ss e.statement) (statements_are s.program y.sort (seq_of k) b ∙ sym is.statements) ∙ statement_shown k e is

-- where a process stands at a seat, it stands in the body that is found there
pub has_body : (s : State) (process : ℕ) (x : Seat) (k : Body) → slice_get s.stands process ≡ Some (stand_of s.program x) → StandsIn s x k → HasBody s process k
has_body s process x k h e = ap (body_by s) h ∙ e.body
