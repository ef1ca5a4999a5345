-- What is added of a process: the offers of a level, of a node, and of a seat.
use Rattle.std.specs.Prelude.{ℕ, Bool, List, [], ◌∷◌, map, Some}
use Rattle.pml_flow.specs.declared.edge.Edge.{Edge}
use Rattle.pml_value.specs.declared.view.View.{View}
use Rattle.pml_value.specs.Seen.{seen}
use Rattle.promela_run.specs.declared.moves.Pick.{Pick}
use Rattle.run_state.specs.declared.body.Body.{Body}
use Rattle.run_state.specs.declared.seat.Seat.{Seat}
use Rattle.run_state.specs.Standing.{stand_of, shows, offers_at}
use Rattle.promela_run.specs.State.{State}
use Rattle.view_waits.specs.declared.because.Because.{Because}
use Rattle.view_waits.specs.declared.waits.Wait.{Wait}
use Rattle.view_waits.specs.Waits.{alone, waits_on, waits_down, waits_at}

-- those of the edges of a level, where the first of them is picked so
abbrev pub level_waits : View → Body → Pick → List Edge → List Wait
level_waits v k first es = waits_on v.channels.now (seen v) first.process first.level (map (shows k) es)

-- those of a node, by process p
abbrev pub node_waits : View → Body → ℕ → ℕ → List Wait
node_waits v k p n = waits_down v.channels.now (seen v) p (offers_at k n)

-- of process p, where it stands here
abbrev pub seat_waits : State → Bool → ℕ → Seat → List Wait
seat_waits s t p x = waits_at s t p (Some (stand_of s.program x))

-- what has no offer
abbrev pub one_wait : Because → List Wait
one_wait b = alone b ∷ []
