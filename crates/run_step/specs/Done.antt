-- What a statement does, and what a call of a step leaves.
use Rattle.std.specs.Prelude.{◌≡◌, ℕ, List, ◌++◌, Result, OnOk, OnErr}
use Rattle.std.specs.Io.{StartsWith}
use Rattle.diagnostics.specs.declared.fault.Fault.{Fault}
use Rattle.diagnostics.specs.declared.stop.Stop.{Stop}
use Rattle.promela_run.specs.State.{State}
use Rattle.promela_run.specs.Steps.{Done}
use Rattle.promela_run.specs.World.{Running}
use Rattle.run_state.specs.Live.{Joins, PastGrows, Reaches}

-- it is done, and what it prints is appended
abbrev pub Does : Result Done Fault → Result (Unit {0}) Stop → State → List ℕ → List ℕ → Type 0
Does wanted result new before after = Reaches wanted result (λ d. (new ≡ d.state) × (after ≡ before ++ d.printed))

-- What a call of a step leaves: processes are added at most, the past grows at most, and what was printed before stays.
pub record Grows (result : Result (Unit {0}) Stop) (old new : Running) (before after : List ℕ) : Type 0 where
  pub joins : Joins old.state new.state
  pub past : OnOk result (PastGrows old new)
  pub kept : OnErr result (StartsWith after before)
