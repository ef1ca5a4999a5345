-- Who is asked first: the process that holds exclusive control, or the only one.
use Rattle.std.specs.Prelude.{◌≡◌, ℕ, false, if◌then◌else◌, List, [], map}
use Rattle.pml_flow.specs.declared.edge.Edge.{Edge}
use Rattle.promela_run.specs.declared.moves.Pick.{Pick}
use Rattle.promela_run.specs.declared.moves.Move.{Move}
use Rattle.run_state.specs.declared.body.Body.{Body}
use Rattle.run_state.specs.declared.seat.Seat.{Seat}
use Rattle.promela_run.specs.State.{State}
use Rattle.run_state.specs.Standing.{stand_of, shows, seq_of}
use Rattle.promela_run.specs.Moves.{is_else, moves_on, moves_at, moves_held, moves}
use Rattle.run_search.specs.Viewed.{moves_for}

-- These are the moves of a state, if there are any; if there are none, who holds exclusive control has none.
pub record AreFirst (s : State) (ms : List Move) : Type 0 where
  pub some : (ms ≡ [] → ⊥) → moves s ≡ ms
  pub none : ms ≡ [] → moves_held s s.holder ≡ []

-- the moves of process p that stands there
abbrev pub moves_from : State → ℕ → Seat → List Move
moves_from s p x = moves_at s p false (stand_of s.program x)

-- those of its lowest level
abbrev pub moves_of_level : State → Body → ℕ → List Edge → List Move
moves_of_level s k p es = moves_on s p false (seq_of k) 0 (map (shows k) es)

-- those of an offer, none where it is an `else`
abbrev pub moves_of_offer : State → Body → Pick → Edge → List Move
moves_of_offer s k p e = if is_else (shows k e).basic then [] else moves_for s false (seq_of k) p (shows k e)
