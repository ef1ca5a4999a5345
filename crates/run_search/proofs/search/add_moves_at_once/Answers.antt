use Rattle.std.proofs.Common.{◌≡◌, ◌++◌, false, None, slice_index_or, ap, ◌∙◌, arith}
use Rattle.pml_flow.specs.declared.edge.Edge.{Edge}
use Rattle.promela_run.specs.declared.moves.Pick.{Pick}
use Rattle.promela_run.specs.Moves.{pick}
use Rattle.run_search.specs.First.{moves_of_offer}
use Rattle.run_search.proofs.First.{one_more}
use Rattle.run_search.proofs.Keeping.{kept_on}
use Rattle.run_search.proofs.search.add_moves_at_once.Goals as goal

pub loop-place-preserved : goal.loop-place-preserved
loop-place-preserved c =
    let s = c.args.live.now.state in
    let k = c.args.body.now in
    let i = c.loop-place.place in
    let d : Edge = record { statement = 0; target = 0; keeps = false; stays = false; entry = None } in
    let done = c.if-not-is_added_at_once.false in
    let added : c.is_added_at_once.new.moves.items ≡ c.loop-place.moves.items ++ moves_of_offer s k (pick c.args.process 0 i) (slice_index_or c.args.edges.now i d) =
    c.is_added_at_once.ensures.added done s
    ∙ ap (λ (q : Pick). c.loop-place.moves.items ++ moves_of_offer s k q (slice_index_or c.args.edges.now i d)) c.pick.ensures in
    let one = c.is_added_at_once.ensures.one done in
    record {
      same = one_more s k c.args.process i c.args.edges.now d c.is_added_at_once.new.moves.items c.loop-place.moves.items c.args.moves.now.items
          c.loop-place-test.true added c.loop-place.invariant.same;
      many = omega (arith, one, c.loop-place.invariant.many);
      kept = kept_on c.is_added_at_once.new.moves.items c.loop-place.moves.items c.args.moves.now.items c.is_added_at_once.ensures.kept c.loop-place.invariant.kept;
    }
