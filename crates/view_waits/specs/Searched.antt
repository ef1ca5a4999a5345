-- What the first of the present moves tells of the search for them.
use Rattle.std.specs.Prelude.{ℕ, Bool, true, false, not, ◌&&◌, if◌then◌else◌, nat_eq, Option, Some, None}
use Rattle.promela_run.specs.declared.moves.Move.{Move}
use Rattle.promela_run.specs.declared.moves.Move.TheVariants.{Death, Alone, Pair}
use Rattle.run_search.specs.Laws.{taker}

-- whether a move was found under `timeout`
abbrev pub is_late : Move → Bool
is_late (Death p) = false
is_late (Alone k t) = t
is_late (Pair k j t) = t

-- the `timeout` under which the first move was found; 1, where there is none
abbrev pub timeout_by : Option Move → Bool
timeout_by None = true
timeout_by (Some m) = is_late m

-- a process, where this is so
abbrev pub only : Bool → ℕ → Option ℕ
only b h = if b then Some h else None

-- the holder of exclusive control, where the first move is its own and was found without `timeout`
abbrev pub control_by : Option ℕ → Option Move → Option ℕ
control_by None m = None
control_by (Some h) None = None
control_by (Some h) (Some m) = only (nat_eq (taker m) h && not (is_late m)) h
