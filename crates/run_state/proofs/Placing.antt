-- What a process's node stands for.
use Rattle.std.proofs.Common.{◌≡◌, ◌⊎◌, inl, inr, ℕ, ◌<◌, ◌≤◌, List, [], length, map, refl, sym, ap, ◌∙◌, arith, Option, Some, None}
use Rattle.std.specs.Prelude.{slice_get, slice_index_or, option_map, IfSome}
use Rattle.std.proofs.lemmas.Option.{slice_get-map}
use Rattle.std.proofs.lemmas.Bool.{cases_lt}
use Rattle.std.proofs.lemmas.List.{length-map}
use Rattle.pml_program.specs.declared.program.Stmt.{Stmt}
use Rattle.pml_program.specs.declared.program.Seq.{Seq}
use Rattle.pml_program.specs.declared.program.Proctype.{Proctype}
use Rattle.pml_program.specs.declared.program.Program.{Program}
use Rattle.promela_process.specs.Control.{Control}
use Rattle.pml_control.specs.Told.{told_of}
use Rattle.pml_flow.specs.declared.edge.Edge.{Edge}
use Rattle.pml_flow.specs.Points.{points_of, point_at}
use Rattle.promela_process.specs.Offers.{stated}
use Rattle.pml_flow.specs.Graph.{Node, Graph, AreGraphs, levels_of}
use Rattle.pml_flow.proofs.Differing.{one_node}
use Rattle.run_state.specs.declared.seat.Seat.{Seat}
use Rattle.run_state.specs.declared.body.Body.{Body}
use Rattle.promela_run.specs.State.{Stand, body_of, levels, first_control, begins_at}
use Rattle.run_state.specs.Standing.{begins_by, control_at, stand_of, statements_of, IsPlayed, IsBody, shows, edges_at}
use Rattle.run_state.proofs.Finding.{index_map, index_total, got, got_none, there, past, within, at_end}

-- the edges of a node are the offers of what it stands for
pub at_node : (k : Body) (n : ℕ) → IsBody k → map (map (shows k)) (edges_at k n) ≡ levels k.proctype.now.body (point_at k.proctype.now.body n)
at_node k n h = by_case (cases_lt n (length (points_of k.proctype.now.body)))
  where
    by_case : (n < length (points_of k.proctype.now.body)) ⊎ (length (points_of k.proctype.now.body) ≤ n) → map (map (shows k)) (edges_at k n) ≡ levels k.proctype.now.body (point_at k.proctype.now.body n)
    by_case (inl l) =
        let b : Seq = k.proctype.now.body in
        let c = there (points_of b) n l in
        h.graph.levels n c.0 c.1 ∙ ap (λ (d : Control). levels b d) (sym (got (points_of b) n c.0 [] c.1))
    by_case (inr l) =
        let b : Seq = k.proctype.now.body in
        let m : length k.graph.now.nodes ≤ n = omega (arith, l, h.graph.nodes) in
        ap (λ (o : Option Node). map (map (shows k)) (levels_of k.graph.now o)) (past k.graph.now.nodes n m)
        ∙ ap (λ (d : Control). levels b d) (sym (got_none (points_of b) n [] l))

-- the offers of a level
pub level_is : (k : Body) (n l : ℕ) (es : List Edge) → es ≡ slice_index_or (edges_at k n) l [] → l < length (edges_at k n) → (l < length (map (map (shows k)) (edges_at k n))) × (map (shows k) es ≡ slice_index_or (map (map (shows k)) (edges_at k n)) l [])
level_is k n l es e h =
    let m = length-map (edges_at k n) (map (shows k)) in
    (omega (arith, h, m), ap (map (shows k)) e ∙ sym (index_map (map (shows k)) (edges_at k n) l [] [] h))

-- a statement's number has the statement at its place
pub statement_shown : (k : Body) (e : Edge) → IsBody k → option_map (λ (s : Stmt). s.basic) (slice_index_or k.statements.now e.statement None) ≡ (shows k e).basic
statement_shown k e h =
    ap (λ (ss : List (Option Stmt)). option_map (λ (s : Stmt). s.basic) (slice_index_or ss e.statement None)) h.statements
    ∙ ap (λ (o : Option Stmt). option_map (λ (s : Stmt). s.basic) o) (index_total (stated k.proctype.now.body) (told_of k.proctype.now.body) e.statement [])

-- ---- a proctype's graph and statements

module _ (p : Program) (gs : List Graph) (ss : List (List (Option Stmt))) (is : IsPlayed p gs ss) where
  -- a proctype that is there has a graph
  pub has_graph : (k : ℕ) (q : Proctype) → slice_get p.proctypes k ≡ Some q → slice_get gs k ≡ None → ⊥
  has_graph k q h g =
      let l = within p.proctypes k q h in
      let m = at_end gs k g in
      omega (arith, l, m, is.graphs.many)

  pub statements_at : (k : ℕ) (q : Proctype) → slice_get p.proctypes k ≡ Some q → slice_get ss k ≡ Some (statements_of q.body)
  statements_at k q h =
      ap (λ (ts : List (List (Option Stmt))). slice_get ts k) is.statements
      ∙ slice_get-map (λ (p : Proctype). statements_of p.body) p.proctypes k
      ∙ ap (λ (o : Option Proctype). option_map (λ (p : Proctype). statements_of p.body) o) h

  pub body_is : (n : ℕ) (k : Body) → slice_get p.proctypes n ≡ Some k.proctype.now → slice_get gs n ≡ Some k.graph.now → slice_get ss n ≡ Some k.statements.now → IsBody k
  body_is n k h g t = record {
    graph = is.graphs.each n k.proctype.now k.graph.now h g;
    statements = let e = statements_at n k.proctype.now h in let z : Some k.statements.now ≡ Some (statements_of k.proctype.now.body) = sym t ∙ e in cc;
  }

-- the first node of a proctype's graph is where its processes begin
pub started : (p : Program) (gs : List Graph) (k n : ℕ) → AreGraphs p.proctypes gs → IfSome (slice_get gs k) (λ g. n ≡ g.start) → stand_of p (record { sort = k; node = n }) ≡ begins_at p k
started p gs k n h start = by (slice_get p.proctypes k) (slice_get gs k) refl refl start
  where
    by : (o : Option Proctype) (g : Option Graph) → slice_get p.proctypes k ≡ o → slice_get gs k ≡ g → IfSome g (λ g. n ≡ g.start) → stand_of p (record { sort = k; node = n }) ≡ begins_at p k
    by None g e f s = let b : body_of p k ≡ None = ap (option_map (λ (q : Proctype). q.body)) e in ap (λ (o : Option Seq). record { sort = k; control = control_at o n }) b ∙ sym (ap (begins_by k) b)
    by (Some q) (Some g) e f s =
        let b : body_of p k ≡ Some q.body = ap (option_map (λ (q : Proctype). q.body)) e in
        let c : point_at q.body n ≡ first_control q.body = ap (point_at q.body) s ∙ got (points_of q.body) g.start (first_control q.body) [] (h.each k q g e f).start in
        ap (λ (o : Option Seq). record { sort = k; control = control_at o n }) b ∙ ap (λ (c : Control). record { sort = k; control = c }) c ∙ sym (ap (begins_by k) b)
    by (Some q) None e f s = let l = within p.proctypes k q e in let m = at_end gs k f in absurd (omega (arith, l, m, h.many))

-- ---- where something is left to do

-- at node 0 and past the last node nothing is left
pub nothing_left : (p : Program) (x : Seat) (k : Body) → IsBody k → body_of p x.sort ≡ Some k.proctype.now.body → (x.node ≡ 0) ⊎ (length k.graph.now.nodes ≤ x.node) → (stand_of p x).control ≡ []
nothing_left p x k h e (inl z) =
    ap (λ (o : Option Seq). control_at o x.node) e ∙ ap (point_at k.proctype.now.body) z
nothing_left p x k h e (inr l) =
    let m : length (points_of k.proctype.now.body) ≤ x.node = omega (arith, l, h.graph.nodes) in
    ap (λ (o : Option Seq). control_at o x.node) e ∙ got_none (points_of k.proctype.now.body) x.node [] m

-- no body, nothing left
pub no_body : (p : Program) (x : Seat) → body_of p x.sort ≡ None → (stand_of p x).control ≡ []
no_body p x e = ap (λ (o : Option Seq). control_at o x.node) e

-- at each other node something is
pub something_left : (k : Body) (n : ℕ) → IsBody k → (n ≡ 0 → ⊥) → n < length k.graph.now.nodes → point_at k.proctype.now.body n ≡ [] → ⊥
something_left k n h z l e =
    let b : Seq = k.proctype.now.body in
    let m : n < length (points_of b) = omega (arith, l, h.graph.nodes) in
    let c = there (points_of b) n m in
    let d : c.0 ≡ [] = sym (got (points_of b) n c.0 [] c.1) ∙ e in
    z (one_node b n 0 [] (c.1 ∙ ap Some d) refl)

-- a process by its place, as it is lent and as it stands
pub seat_stands : (p : Program) (xs : List Seat) (ys : List Stand) (n : ℕ) (x : Seat) → map (stand_of p) xs ≡ ys → slice_get xs n ≡ Some x → slice_get ys n ≡ Some (stand_of p x)
seat_stands p xs ys n x e h =
    ap (λ (zs : List Stand). slice_get zs n) (sym e) ∙ slice_get-map (stand_of p) xs n ∙ ap (λ (o : Option Seat). option_map (stand_of p) o) h
