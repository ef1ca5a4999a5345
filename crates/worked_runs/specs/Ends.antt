-- What each path of a model prints, and how it ends: what can be held against a full search of another tool.
use Rattle.std.specs.Prelude.{ℕ, List, [], ◌∷◌, ◌++◌, map, Option, Some, None, false, Result, Ok, Err}
use Prim.Native.Nat.{zero, suc}
use Rattle.std.specs.List.{flat_map}
use Rattle.diagnostics.specs.declared.fault.Fault.{Fault}
use Rattle.promela_machine.specs.Machine.{Rules, Outcome, Goes, Faults}
use Rattle.pml_program.specs.declared.program.Program.{Program}
use Rattle.promela_run.specs.State.{State, first_state}
use Rattle.promela_run.specs.World.{first, rules}
use Rattle.worked_runs.specs.Printed.{Printed, Fails, ended}

module _ {S M : Type 0} (rules : Rules S M) where
  -- paths that begin with a step: what it prints comes before what they print
  abbrev pub behind : (S → List Printed) → Outcome S → List Printed
  behind more (Goes s text) = map (λ (p : Printed). record { text = text ++ p.text; ending = p.ending }) (more s)
  behind more (Faults why) = record { text = []; ending = Fails why } ∷ []

  -- the paths by each of these moves; one that ends here, where there is none
  abbrev pub by_moves : (S → List Printed) → S → List M → List Printed
  by_moves more s [] = ended rules s [] ∷ []
  by_moves more s ms = flat_map (λ (m : M). behind more (rules.step s m)) ms

  -- the paths of at most so many steps from a state, in the order of the moves
  unfoldable pub paths_from : ℕ → S → List Printed
  paths_from zero s = ended rules s (rules.moves s) ∷ []
  paths_from (suc steps) s = by_moves (paths_from steps) s (rules.moves s)

-- those of a model from its first state
abbrev pub paths_behind : ℕ → Result State Fault → Option (List Printed)
paths_behind steps (Ok s) = Some (paths_from rules steps (first s false))
paths_behind steps (Err f) = None

-- what each path of a model prints in at most so many steps, and how it ends, with no message lost
abbrev pub paths : Program → ℕ → Option (List Printed)
paths p steps = paths_behind steps (first_state p)
