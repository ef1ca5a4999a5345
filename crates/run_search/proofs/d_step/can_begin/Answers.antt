use Rattle.std.proofs.Common.{List, sym, ap, ◌∙◌}
use Rattle.promela_process.specs.Offers.{Offer}
use Rattle.pml_flow.specs.Graph.{maybe}
use Rattle.pml_flow.specs.Points.{point_at}
use Rattle.pml_value.specs.Seen.{seen}
use Rattle.promela_run.specs.Moves.{choices, is_some}
use Rattle.run_search.specs.Lifted.{levels_from}
use Rattle.run_state.proofs.Placing.{at_node}
use Rattle.run_search.proofs.d_step.can_begin.Goals as goal

pub returns-in-Some : goal.returns-in-Some
returns-in-Some c =
    let cs = c.args.view.now.channels.now in
    let b = c.args.body.now.proctype.now.body in
    c.has_choice.ensures
    ∙ ap (λ (ls : List (List Offer)). is_some (choices c.args.lossy cs (seen c.args.view.now) ls)) (at_node c.args.body.now c.in-Some.node c.requires)
    ∙ ap (λ o. is_some (choices c.args.lossy cs (seen c.args.view.now) (levels_from b (maybe (point_at b) o)))) (sym c.in-Some.is)
