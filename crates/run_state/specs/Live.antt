-- What lives in a run, and what calls make of it.
use Rattle.std.specs.Prelude.{◌≡◌, ℕ, List, length, take, ◌++◌, if◌then◌else◌, Some, None, Result, Ok, Err}
use Rattle.diagnostics.specs.declared.fault.Fault.{Fault}
use Rattle.diagnostics.specs.declared.stop.Stop.{Stop}
use Rattle.diagnostics.specs.declared.stop.Stop.TheVariants as stop
use Rattle.promela_process.specs.Store.{Frame}
use Rattle.promela_run.specs.State.{Stand, State}
use Rattle.pml_flow.specs.declared.edge.Edge.{Edge}
use Rattle.promela_run.specs.Steps.{go_to, without_youngest}
use Rattle.run_state.specs.Calls.{control_of}
use Rattle.promela_run.specs.World.{Running}

-- no process comes, goes or moves, and the past stays
pub record Keeps (old new : Running) : Type 0 where
  pub program : new.state.program ≡ old.state.program
  pub stands : new.state.stands ≡ old.state.stands
  pub past : new.past ≡ old.past

-- processes are added at most, behind the others
pub record Joins (old new : State) : Type 0 where
  pub program : new.program ≡ old.program
  pub more : List Stand
  pub stands : new.stands ≡ old.stands ++ more

-- the past stays, with something behind it for new processes
abbrev pub PastGrows : Running → Running → Type 0
PastGrows old new = (rest : List Frame) × (new.past ≡ old.past ++ rest)

-- a process stands at a node of its graph
abbrev pub at_node : Running → ℕ → ℕ → Running
at_node l p n = record l { state = go_to l.state p (control_of l.state p n) }

-- and where an edge leads, and holds exclusive control where the edge stays in one atomic; else nobody does
abbrev pub along : Running → ℕ → Edge → Running
along l p e = record l { state = record (go_to l.state p (control_of l.state p e.target)) { holder = if e.keeps then Some p else None } }

-- the youngest process dies, and what its variables held before goes with it
abbrev pub died : Running → Running
died l = record l { state = without_youngest l.state; past = take (length l.state.stands) l.past }

-- what is wanted is reached; or its fault is answered, or memory is refused
abbrev pub Reaches : {A : Type 0} → Result A Fault → Result (Unit {0}) Stop → (A → Type 0) → Type 0
Reaches (Ok a) (Ok u) Is = Is a
Reaches (Ok a) (Err stop.Memory) Is = Unit {0}
Reaches (Ok a) (Err (stop.Fault f)) Is = ⊥
Reaches (Err f) (Err (stop.Fault g)) Is = g ≡ f
Reaches (Err f) (Err stop.Memory) Is = Unit {0}
Reaches (Err f) (Ok u) Is = ⊥

-- it leads to this state
abbrev pub Leads : Result State Fault → Result (Unit {0}) Stop → State → Type 0
Leads wanted result new = Reaches wanted result (λ s. new ≡ s)
