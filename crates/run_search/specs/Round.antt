-- A round of the search: the moves that it finds.
use Rattle.std.specs.Prelude.{ℕ, Bool, false, if◌then◌else◌, List, [], ◌∷◌, ℤ, length, map, drop, Option, Result}
use Rattle.diagnostics.specs.declared.fault.Fault.{Fault}
use Rattle.pml_program.specs.declared.expr.Expr.{Expr}
use Rattle.pml_program.specs.declared.expr.Target.{Target}
use Rattle.promela_process.specs.Expressions.{◌>>=◌}
use Rattle.pml_flow.specs.declared.edge.Edge.{Edge}
use Rattle.promela_run.specs.declared.moves.Pick.{Pick}
use Rattle.promela_run.specs.declared.moves.Move.{Move}
use Rattle.promela_run.specs.declared.moves.Move.TheVariants.{Alone}
use Rattle.promela_run.specs.State.{State, reads}
use Rattle.promela_run.specs.Statements.{values}
use Rattle.run_state.specs.declared.body.Body.{Body}
use Rattle.run_state.specs.declared.seat.Seat.{Seat}
use Rattle.run_search.specs.declared.round.Round.{Round}
use Rattle.run_search.specs.declared.tier.Tier.{Tier}
use Rattle.run_state.specs.Standing.{stand_of, shows, offers_at, seq_of}
use Rattle.promela_run.specs.Moves.{Message, Named, named, or_fault, can_send, can_alone, message_on, is_else, each, last, pairs, plain_moves, else_moves, moves_on, moves_at, moves_under}
use Rattle.run_search.specs.Viewed.{moves_for}
use Rattle.run_search.specs.Listeners.{AreKnown}
use Rattle.promela_run.specs.World.{Running}

-- what it knows is so
abbrev pub IsKnown : Round → Type 0
IsKnown r = AreKnown r.live.now.state r.timeout (record { demands = r.demands; spans = r.spans; any = r.any })

-- of a send over the channel that is named, with these values in its fields, where either may have a fault
abbrev pub sent_moves : State → Bool → Pick → Result Named Fault → Result (List ℤ) Fault → List Move
sent_moves s t p c vs =
    if or_fault (c >>= λ c. can_send s.lossy false c.contents vs) then Alone p t ∷ [] else pairs s t p (message_on c vs)

-- the pairs of a message
abbrev pub round_pairs : Round → Pick → Option Message → List Move
round_pairs r = pairs r.live.now.state r.timeout

-- whether an offer of process p is a move by itself, by its edge
abbrev pub alone_at : State → Bool → Body → ℕ → Edge → Bool
alone_at s t k p e = can_alone s.lossy s.channels (reads s p t) (seq_of k) (shows k e) (shows k e).basic

-- of the offer that is picked, by its edge
abbrev pub round_for : Round → Body → Pick → Edge → List Move
round_for r k p e = moves_for r.live.now.state r.timeout (seq_of k) p (shows k e)

-- of a send, by the variable that names its channel and its fields
abbrev pub round_send : Round → Pick → Target → List Expr → List Move
round_send r p t es =
    let s = r.live.now.state in
    sent_moves s r.timeout p (named s.channels (reads s p.process r.timeout) t (length es)) (values es (reads s p.process r.timeout))

-- none, where that is an `else`
abbrev pub round_plain_for : Round → Body → Pick → Edge → List Move
round_plain_for r k p e = if is_else (shows k e).basic then [] else round_for r k p e

-- of a level's offers that are no `else`
abbrev pub round_plain : Round → Body → Tier → List Edge → List Move
round_plain r k t es = plain_moves r.live.now.state t.process r.timeout (seq_of k) t.level (map (shows k) es)

-- of its `else` offers, under this `timeout`
abbrev pub else_on : Body → Tier → Bool → List Edge → List Move
else_on k t timeout es = else_moves t.process timeout t.level (map (shows k) es)

-- of a level
abbrev pub round_on : Round → Body → Tier → List Edge → List Move
round_on r k t es = moves_on r.live.now.state t.process r.timeout (seq_of k) t.level (map (shows k) es)

-- of the highest level of a node that has any
abbrev pub round_down : Round → Body → ℕ → ℕ → List Move
round_down r k p n = last (moves_on r.live.now.state p r.timeout (seq_of k)) 0 (offers_at k n)

-- of a process
abbrev pub round_at : Round → ℕ → Seat → List Move
round_at r p x = moves_at r.live.now.state p r.timeout (stand_of r.live.now.state.program x)

-- of the processes from this one on
abbrev pub round_behind : Round → ℕ → List Move
round_behind r n = let s = r.live.now.state in each (λ p y. moves_at s p r.timeout y) n (drop n s.stands)

-- of all
abbrev pub round_under : Round → List Move
round_under r = moves_under r.live.now.state r.timeout

-- of all of what lives, under this `timeout`
abbrev pub live_under : Running → Bool → List Move
live_under l t = moves_under l.state t
