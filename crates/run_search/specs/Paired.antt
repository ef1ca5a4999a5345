-- The pairs of a message, by which offer and under which value of `timeout` it is sent.
use Rattle.std.specs.Prelude.{ℕ, List, map, Option, Some}
use Rattle.pml_program.specs.declared.program.Basic.{Basic}
use Rattle.pml_flow.specs.declared.edge.Edge.{Edge}
use Rattle.promela_run.specs.declared.moves.Pick.{Pick}
use Rattle.promela_run.specs.declared.moves.Move.{Move}
use Rattle.promela_run.specs.declared.moves.Move.TheVariants.{Pair}
use Rattle.run_search.specs.declared.rendezvous.Sending.{Sending}
use Rattle.run_state.specs.declared.body.Body.{Body}
use Rattle.run_state.specs.declared.seat.Seat.{Seat}
use Rattle.run_search.specs.declared.tier.Tier.{Tier}
use Rattle.promela_run.specs.State.{State, reads}
use Rattle.promela_run.specs.World.{Running}
use Rattle.run_state.specs.Standing.{stand_of, shows, offers_at}
use Rattle.promela_run.specs.Moves.{only_if, accepts, last, pairs_on, pairs_with, pairs}

-- with a receive, where that takes it
abbrev pub pair_by : State → Sending → Pick → Option Basic → List Move
pair_by s x j o = only_if (accepts s.channels (reads s j.process x.timeout) x.message o) (Pair x.sender j x.timeout)

-- with a level of a process
abbrev pub paired_on : State → Sending → Body → Tier → List Edge → List Move
paired_on s x k t es = pairs_on s x.timeout x.sender x.message t.process t.level (map (shows k) es)

-- with the highest level of a node that has a receive of it, by process j
abbrev pub paired_down : State → Sending → Body → ℕ → ℕ → List Move
paired_down s x k j n = last (pairs_on s x.timeout x.sender x.message j) 0 (offers_at k n)

-- with process j
abbrev pub paired_with : State → Sending → ℕ → Seat → List Move
paired_with s x j y = pairs_with s x.timeout x.sender x.message j (stand_of s.program y)

-- with all
abbrev pub paired_by : Running → Sending → List Move
paired_by l x = pairs l.state x.timeout x.sender (Some x.message)
