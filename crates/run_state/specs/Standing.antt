-- Where processes stand: the bodies of proctypes, and what their nodes stand for.
use Rattle.std.specs.Prelude.{◌≡◌, ℕ, ◌<◌, length, map, List, [], Option, Some, None, slice_get}
use Rattle.std.specs.Option.{option_map_or}
use Rattle.pml_program.specs.declared.program.Stmt.{Stmt}
use Rattle.pml_program.specs.declared.program.Seq.{Seq}
use Rattle.pml_program.specs.declared.program.Proctype.{Proctype}
use Rattle.pml_program.specs.declared.program.Program.{Program}
use Rattle.promela_process.specs.Control.{Control}
use Rattle.pml_control.specs.Told.{told_of}
use Rattle.pml_flow.specs.declared.edge.Edge.{Edge}
use Rattle.pml_flow.specs.Points.{point_at}
use Rattle.promela_process.specs.Offers.{stated, Offer}
use Rattle.pml_flow.specs.Graph.{Graph, levels_of, shown, IsGraph, AreGraphs}
use Rattle.run_state.specs.declared.seat.Seat.{Seat}
use Rattle.run_state.specs.declared.body.Body.{Body}
use Rattle.promela_run.specs.State.{Stand, State, body_of, first_control}

-- what is to do at a node; nothing, where there is none
abbrev pub control_at : Option Seq → ℕ → Control
control_at None n = []
control_at (Some b) n = point_at b n

abbrev pub stand_of : Program → Seat → Stand
stand_of pr x = record { sort = x.sort; control = control_at (body_of pr x.sort) x.node }

-- a process of a proctype with this body before its first statement
abbrev pub begins_by : ℕ → Option Seq → Stand
begins_by k o = record { sort = k; control = option_map_or first_control o [] }

-- the statements of a body by the numbers of its places
abbrev pub statements_of : Seq → List (Option Stmt)
statements_of b = map (stated b) (told_of b)

-- graphs and statements are those of the proctypes, in their order
pub record IsPlayed (p : Program) (gs : List Graph) (ss : List (List (Option Stmt))) : Type 0 where
  pub graphs : AreGraphs p.proctypes gs
  pub statements : ss ≡ map (λ (q : Proctype). statements_of q.body) p.proctypes

-- ---- a body, its graph and its statements

pub record IsBody (k : Body) : Type 0 where
  pub graph : IsGraph k.proctype.now.body k.proctype.now.end.line k.graph.now
  pub statements : k.statements.now ≡ statements_of k.proctype.now.body

-- the offer that an edge stands for
abbrev pub shows : Body → Edge → Offer
shows k e = shown k.proctype.now.body k.graph.now.texts e

-- the edges of a node, level by level
abbrev pub edges_at : Body → ℕ → List (List Edge)
edges_at k n = levels_of k.graph.now (slice_get k.graph.now.nodes n)

-- the offers of a node, level by level
abbrev pub offers_at : Body → ℕ → List (List Offer)
offers_at k n = map (map (shows k)) (edges_at k n)

abbrev pub seq_of : Body → Seq
seq_of k = k.proctype.now.body

-- A process stands in this body, and something is left to do.
pub record StandsIn (s : State) (x : Seat) (k : Body) : Type 0 where
  pub body : body_of s.program x.sort ≡ Some k.proctype.now.body
  pub is : IsBody k
  pub node : x.node < length k.graph.now.nodes
  pub left : point_at k.proctype.now.body x.node ≡ [] → ⊥
