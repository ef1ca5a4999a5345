-- Whether a process stands at a node of its graph, by what stands first there: no two nodes of a body have the same first statement.
use Rattle.std.specs.Prelude.{ℕ, List, [], ◌∷◌, Bool, true, false, ◌==◌, ◌&&◌, Option, Some, None, slice_get}
use Rattle.promela_process.specs.Control.{Descent, Position, Control}
use Rattle.pml_flow.specs.Graph.{first_position}
use Rattle.pml_program.specs.declared.program.Program.{Program}
use Rattle.promela_run.specs.State.{Stand, State, body_of}
use Rattle.run_state.specs.Standing.{control_at}

-- whether two ways into statements are the same
abbrev pub same_descents : List Descent → List Descent → Bool
same_descents [] [] = true
same_descents (t ∷ q) (u ∷ r) = (t.0 == u.0) && ((t.1 == u.1) && same_descents q r)
same_descents [] (u ∷ r) = false
same_descents (t ∷ q) [] = false

abbrev pub same_position : Position → Position → Bool
same_position p r = (p.1 == r.1) && same_descents p.0 r.0

-- whether the same statement stands first, or nothing is left to do in both
abbrev pub same_first : Control → Control → Bool
same_first [] [] = true
same_first (f ∷ c) (g ∷ d) = same_position (first_position (f ∷ c)) (first_position (g ∷ d))
same_first [] (g ∷ d) = false
same_first (f ∷ c) [] = false

abbrev pub on_by : Program → Option Stand → ℕ → Bool
on_by pr None n = false
on_by pr (Some y) n = same_first (control_at (body_of pr y.sort) n) y.control

-- whether a process stands at a node
abbrev pub is_on : State → ℕ → ℕ → Bool
is_on s p n = on_by s.program (slice_get s.stands p) n
