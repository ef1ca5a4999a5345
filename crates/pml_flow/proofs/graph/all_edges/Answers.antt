use Rattle.std.proofs.Common.{◌≡◌, ◌+◌, ◌++◌, ◌∷◌, ◌∙◌, [], length, map, drop, sym, ap, List}
use Rattle.std.proofs.lemmas.List.{drop_more}
use Rattle.pml_flow.specs.declared.edge.Edge.{Edge}
use Rattle.pml_flow.specs.Ways.{Site}
use Rattle.pml_flow.specs.Arms.{all_of, bounds_from}
use Rattle.pml_flow.specs.Graph.{Tables, edges_level, own_levels}
use Rattle.pml_flow.proofs.Parting.{lists_more, ends_more, numbers_more}
use Rattle.pml_flow.proofs.graph.all_edges.Goals as goal

pub loop-site-preserved : goal.loop-site-preserved
loop-site-preserved c =
    let t : Tables = c.args.tables.now in
    let i = c.loop-site.site-index in
    let x : Site = c.site-item.result in
    let rest : List (List (List Edge)) = map (own_levels t) (drop (i + 1) t.sites) in
    let ys : List Site = c.tables.inside.sites.now in
    let v : t.sites ≡ ys = sym (ap (λ (u : Tables). u.sites) c.tables.view_is) in
    let d : map (own_levels t) (drop i t.sites) ≡ own_levels t x ∷ rest =
    ap (λ zs. map (own_levels t) (drop i zs)) v
    ∙ ap (map (own_levels t)) (drop_more ys i x c.loop-site-test.true ∙ ap (λ y. y ∷ drop (i + 1) ys) (sym c.site-item.is))
    ∙ ap (λ zs. own_levels t x ∷ map (own_levels t) (drop (i + 1) zs)) (sym v) in
    let old = c.loop-site.edges.items in
    let bs = c.loop-site.bounds.items in
    let ms = c.loop-site.numbers.items in
    let e = c.in_ok-add_levels.ensures.edges ∙ ap (λ w. old ++ all_of (map (edges_level t) w)) c.ways.ensures in
    let b = c.in_ok-add_levels.ensures.bounds ∙ ap (λ w. bs ++ bounds_from (length old) (map (edges_level t) w)) c.ways.ensures in
    record {
      so_far = lists_more (own_levels t x) rest old c.add_levels.new.edges.items _ e
          (ap (λ r. old ++ all_of (all_of r)) (sym d) ∙ c.loop-site.invariant.so_far);
      ends = ends_more (own_levels t x) rest old c.add_levels.new.edges.items bs c.add_levels.new.bounds.items _ e b
          (ap (λ r. bs ++ bounds_from (length old) (all_of r)) (sym d) ∙ c.loop-site.invariant.ends);
      counts = numbers_more (own_levels t x) rest (length old) bs c.add_levels.new.bounds.items ms c.push.new.self.items _ b
          (c.in_ok-push.ensures.items ∙ ap (λ n. ms ++ n ∷ []) (c.len.ensures ∙ c.add_levels.new.bounds.ok.0))
          (ap (λ r. ms ++ bounds_from (length bs) r) (sym d) ∙ c.loop-site.invariant.counts);
    }
