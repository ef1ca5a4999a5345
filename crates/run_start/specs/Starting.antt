-- What beginning a model answers, and what is declared in it.
use Rattle.std.specs.Prelude.{◌≡◌, ℕ, ◌+◌, ◌<◌, ◌≤◌, ◌++◌, List, [], ◌∷◌, length, map, replicate, Result, Ok, Err}
use Rattle.std.specs.List.{AllByRecursion}
use Rattle.profile.specs.declared.TheConstants.{MOST_PROCESSES}
use Rattle.diagnostics.specs.declared.fault.Fault.{Fault}
use Rattle.pml_program.specs.declared.program.Proctype.{Proctype}
use Rattle.pml_program.specs.declared.program.Program.{Program}
use Rattle.diagnostics.specs.declared.stop.Stop.{Stop}
use Rattle.diagnostics.specs.declared.stop.Stop.TheVariants as stop
use Rattle.promela_process.specs.Store.{Frame}
use Rattle.run_start.specs.declared.started.Started.{Started}
use Rattle.promela_run.specs.State.{size, State, variables_at}
use Rattle.run_start.specs.Shown.{Begins, begun, shape}

-- the first state of this model, or the first fault; where memory is refused, nothing is said
abbrev pub Starts : Program → Result State Fault → Result Started Stop → Type 0
Starts p (Ok b) (Ok s) = begun p s ≡ b
Starts p (Ok b) (Err stop.Memory) = Unit {0}
Starts p (Ok b) (Err (stop.Fault f)) = ⊥
Starts p (Err f) (Err (stop.Fault g)) = g ≡ f
Starts p (Err f) (Err stop.Memory) = Unit {0}
Starts p (Err f) (Ok s) = ⊥

-- the proctypes of the processes that a model starts with, by their numbers, each as often as it starts
abbrev pub starting : ℕ → List Proctype → List ℕ
starting k [] = []
starting k (q ∷ qs) = replicate q.starts k ++ starting (k + 1) qs

-- ---- what is declared

-- how many cells the variables of the globals have, and those of each process
abbrev pub declared_sizes : Program → List ℕ → List (List ℕ)
declared_sizes p sorts = map size p.globals ∷ map (λ k. map size (variables_at p k)) sorts

-- the processes are of proctypes that are there, and each variable has the cells that it is declared with
pub record IsDeclared (p : Program) (frames : List Frame) (ks : List ℕ) : Type 0 where
  pub few : length ks ≤ MOST_PROCESSES
  pub sorts : AllByRecursion (λ k. k < length p.proctypes) ks
  pub sizes : shape frames ≡ declared_sizes p ks

-- so it is with what has been started
abbrev pub Declares : Program → Started → Type 0
Declares p s = IsDeclared p s.store.frames s.sorts.items

-- what begins leads from what had been started to what has been, or answers its fault
abbrev pub Grows : Program → (State → Result State Fault) → Started → Result (Unit {0}) Stop → Started → Type 0
Grows p begins old answer new = Begins (begins (begun p old)) answer (begun p new)
