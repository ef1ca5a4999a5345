-- What is kept of a graph, and what a body's graph stands for.
use Rattle.std.specs.Prelude.{◌≡◌, MatchBool, ℕ, zero, suc, ◌+◌, ◌-◌, ◌<◌, List, [], ◌∷◌, ◌++◌, length, map, Bool, false, nat_eq, Option, Some, None, slice_get, slice_index_or, option_map}
use Rattle.pml_program.specs.declared.program.Stmt.{Stmt}
use Rattle.pml_program.specs.declared.program.Seq.{Seq}
use Rattle.pml_program.specs.declared.program.Proctype.{Proctype}
use Rattle.promela_process.specs.Control.{Position, Control, Todo, InAtomic, settle, at, steps}
use Rattle.pml_control.specs.Told.{told_of}
use Rattle.promela_process.specs.Offers as control
use Rattle.promela_process.specs.Offers.{Levels, offers, outermost, IsPoint, stated, line_at, Offer, offer_of}
use Rattle.pml_control.specs.declared.ends.Ending.{Ending}
use Rattle.pml_control.specs.declared.ends.Ending.TheVariants as ending
use Rattle.pml_control.specs.Ends.{ending_of}
use Rattle.pml_flow.specs.declared.level.Way.{Way}
use Rattle.pml_flow.specs.declared.edge.Edge.{Edge}
use Rattle.pml_flow.specs.Ways.{Ways, Site, bare}
use Rattle.pml_flow.specs.Points.{points_of, point_at}
use Rattle.pml_flow.specs.Arms.{all_of, bounds_from, begin_of, arm}
use Rattle.pml_flow.specs.Marked.{flag, IsValidEnd}
use Rattle.pml_flow.specs.Composed.{Texts, text_at, offer_line_at}

-- the position of what stands first
abbrev pub first_position : Control → Position
first_position [] = ([], 0)
first_position (Todo p s ∷ c) = p
first_position (f ∷ c) = ([], 0)

-- the position of the atomic that control is directly in
abbrev pub atomic_position : Control → Option Position
atomic_position [] = None
atomic_position (InAtomic p ∷ c) = Some p
atomic_position (f ∷ c) = None

-- what is to do at the position with this number
abbrev pub numbered_at : List Control → ℕ → Control
numbered_at cs n = slice_index_or cs n []

-- of one that may be there
abbrev pub maybe : {X Y : Type 0} → (X → Y) → Option X → Option Y
maybe f None = None
maybe f (Some x) = Some (f x)

-- ---- what ways stand for: for lemmas alone, no contract reaches it

-- what a way stands for
abbrev pub seen : Seq → List Control → Way → control.Edge
seen b cs w = (first_position (numbered_at cs w.statement), settle b (numbered_at cs w.target))

-- the ways of a level, in text order
abbrev pub seen_level : Seq → List Control → List Way → List control.Edge
seen_level b cs [] = []
seen_level b cs (w ∷ ws) = seen_level b cs ws ++ seen b cs w ∷ []

abbrev pub seen_levels : Seq → List Control → Ways → Levels
seen_levels b cs [] = []
seen_levels b cs (ws ∷ rest) = seen_level b cs ws ∷ seen_levels b cs rest

-- ---- what the code makes of sites

-- those where settling ends
abbrev pub kept : {X : Type 0} → List (Option ℕ) → List X → List X
kept [] xs = []
kept (o ∷ os) [] = []
kept (None ∷ os) (x ∷ xs) = x ∷ kept os xs
kept (Some j ∷ os) (x ∷ xs) = kept os xs

-- the node of each number where settling ends, counted from k
abbrev pub ranks_from : ℕ → List (Option ℕ) → List ℕ
ranks_from k [] = []
ranks_from k (None ∷ os) = k ∷ ranks_from (k + 1) os
ranks_from k (Some j ∷ os) = k ∷ ranks_from k os

-- the node of a number
abbrev pub rank : List ℕ → ℕ → ℕ
rank rs e = slice_index_or rs e 0

-- the node that settling comes to
abbrev pub node_by : List ℕ → Ending → ℕ
node_by rs (ending.Stays e) = rank rs e
node_by rs e = 0

-- of each number
abbrev pub targets : List ℕ → List Ending → List ℕ
targets rs es = map (node_by rs) es

-- the number where settling ends from number n
abbrev pub end_by : Ending → ℕ
end_by (ending.Stays e) = e
end_by e = 0

-- the number at which settling ends from this one
abbrev pub end_of : List Ending → ℕ → ℕ
end_of es n = end_by (ending_of es n)

-- what is known of a number; nothing, where there is none
abbrev pub site_of : List Site → ℕ → Site
site_of ss n = slice_index_or ss n (bare None false)

-- both are there, and equal
abbrev pub same_number : Option ℕ → Option ℕ → Bool
same_number (Some m) (Some n) = nat_eq m n
same_number m n = false

-- the node at which a d_step begins
abbrev pub entry_by : List ℕ → Option ℕ → Option ℕ
entry_by ts i = maybe (rank ts) i

-- What edges are made from: the node and the number where settling ends from each number, and the sites.
pub record Tables : Type 0 where
  pub targets : List ℕ
  pub ends : List Ending
  pub sites : List Site

-- the edge of a way: its statement, the node of its target, and whether both lie in one atomic
abbrev pub edge : Tables → Way → Edge
edge t w =
    let end : Site = site_of t.sites (end_of t.ends w.target) in
    record {
      statement = w.statement;
      target = rank t.targets w.target;
      keeps = same_number (site_of t.sites w.statement).atomic end.atomic;
      stays = end.inside;
      entry = entry_by t.targets w.entry;
    }

-- the edges of a level, in text order
abbrev pub edges_level : Tables → List Way → List Edge
edges_level t [] = []
edges_level t (w ∷ ws) = edges_level t ws ++ edge t w ∷ []

-- those of each level of a position
abbrev pub own_levels : Tables → Site → List (List Edge)
own_levels t s = map (edges_level t) s.ways

-- The edges of all positions, level by level; where each level ends among them; and where those of each number end among the levels.
pub record AllEdges : Type 0 where
  pub edges : List Edge
  pub bounds : List ℕ
  pub numbers : List ℕ

abbrev pub all_edges : Tables → AllEdges
all_edges t =
    let levels : List (List (List Edge)) = map (own_levels t) t.sites in
    record { edges = all_of (all_of levels); bounds = bounds_from 0 (all_of levels); numbers = bounds_from 0 levels }

-- so many numbers, from k on
abbrev pub span : ℕ → ℕ → List ℕ
span k zero = []
span k (suc n) = k ∷ span (k + 1) n

-- the levels of number k
abbrev pub levels_by : List ℕ → ℕ → List ℕ
levels_by ns k = span (begin_of ns k) (slice_index_or ns k 0 - begin_of ns k)

-- of each of these numbers
abbrev pub all_levels : List ℕ → List ℕ → List ℕ
all_levels ns [] = []
all_levels ns (k ∷ ks) = levels_by ns k ++ all_levels ns ks

-- A node: its levels, and the outermost atomic that it lies in, by a number that this atomic alone has.
pub record Node : Type 0 where
  pub levels : List ℕ
  pub atomic : Option ℕ

-- A graph: the edges of all levels, and where each level ends among them; for each node its line, and whether it is a valid end
-- point; and the texts of statements with their lines. Nodes under one escape have its levels in common.
pub record Graph : Type 0 where
  pub start : ℕ
  pub nodes : List Node
  pub edges : List Edge
  pub bounds : List ℕ
  pub lines : List ℕ
  pub ends : List Bool
  pub texts : Texts

abbrev pub node_of : List ℕ → Site → Node
node_of ns s = record { levels = all_levels ns s.shows; atomic = s.atomic }

-- of a number where settling ends
abbrev pub node_at : List ℕ → Option ℕ → Option Site → List Node
node_at ns None (Some s) = node_of ns s ∷ []
node_at ns o s = []

-- the statements that edges offer are marked
abbrev pub flag_edges : List Bool → List Edge → List Bool
flag_edges bs [] = bs
flag_edges bs (e ∷ es) = flag_edges (flag bs e.statement) es

-- ---- what a graph is

-- the edges of each level of a node
abbrev pub levels_of : Graph → Option Node → List (List Edge)
levels_of g None = []
levels_of g (Some n) = map (arm g.edges g.bounds) n.levels

-- the position of the atomic with this number
abbrev pub atomic_of : List Control → Option ℕ → Option Position
atomic_of cs None = None
atomic_of cs (Some k) = atomic_position (numbered_at cs k)

abbrev pub atomic_in : Option Node → Option ℕ
atomic_in None = None
atomic_in (Some n) = n.atomic

abbrev pub atomic_at : Graph → ℕ → Option ℕ
atomic_at g n = atomic_in (slice_get g.nodes n)

-- none, or less than n
abbrev pub EachBelow : ℕ → Option ℕ → Type 0
EachBelow n None = Unit {0}
EachBelow n (Some k) = k < n

-- each leads to one of the first n nodes, and so does its entry
abbrev pub LeadBelow : ℕ → List Edge → Type 0
LeadBelow n [] = Unit {0}
LeadBelow n (e ∷ es) = ((e.target < n) × EachBelow n e.entry) × LeadBelow n es

-- the offer that an edge stands for
abbrev pub shown : Seq → Texts → Edge → Offer
shown b t e = record {
  statement = first_position (numbered_at (told_of b) e.statement);
  basic = option_map (λ (s : Stmt). s.basic) (stated b (numbered_at (told_of b) e.statement));
  next = point_at b e.target;
  keeps = e.keeps;
  stays = e.stays;
  entry = maybe (point_at b) e.entry;
  text = text_at t e.statement;
  line = offer_line_at t e.statement;
}

-- whether node n is a valid end point
abbrev pub is_end_at : List Bool → ℕ → Bool
is_end_at es n = slice_index_or es n false

-- node n stands for c
abbrev pub StandsFor : Seq → ℕ → Control → Type 0
StandsFor b n c = slice_get (points_of b) n ≡ Some c

-- Node n stands for the nth point. Its edges are the offers of what is to do there, level by level and in text order.
-- Its line is that of what stands first, or of the closing brace.
pub record IsGraph (b : Seq) (brace : ℕ) (g : Graph) : Type 0 where
  pub nodes : length g.nodes ≡ length (points_of b)
  pub levels :
      (n : ℕ) (c : Control) → StandsFor b n c
      → map (map (shown b g.texts)) (levels_of g (slice_get g.nodes n)) ≡ map (map (offer_of b)) (offers b c)
  pub targets : LeadBelow (length g.nodes) g.edges
  pub atomic : (n : ℕ) (c : Control) → StandsFor b n c → atomic_of (told_of b) (atomic_in (slice_get g.nodes n)) ≡ outermost c
  pub one_number :
      (m n : ℕ) (c d : Control) → StandsFor b m c → StandsFor b n d → outermost c ≡ outermost d → atomic_at g m ≡ atomic_at g n
  pub lines : g.lines ≡ map (line_at b brace) (points_of b)
  pub ends : (n : ℕ) (c : Control) → StandsFor b n c → MatchBool (is_end_at g.ends n) (IsValidEnd b c) (IsValidEnd b c → ⊥)
  pub start : StandsFor b g.start (settle b (at (steps b) ([], 0)))

-- those of proctypes, in their order
pub record AreGraphs (ps : List Proctype) (gs : List Graph) : Type 0 where
  pub many : length gs ≡ length ps
  pub each : (k : ℕ) (p : Proctype) (g : Graph) → slice_get ps k ≡ Some p → slice_get gs k ≡ Some g → IsGraph p.body p.end.line g

-- c is what is to do at a point
pub record Placed (b : Seq) (c : Control) : Type 0 where
  pub position : Position
  pub point : IsPoint b position
  pub is : at (steps b) position ≡ c
