use Rattle.std.proofs.Common.{false, List, map, ap, ◌∙◌, subst}
use Rattle.pml_flow.specs.declared.edge.Edge.{Edge}
use Rattle.promela_run.specs.declared.moves.Move.{Move}
use Rattle.run_state.specs.Standing.{shows, seq_of}
use Rattle.promela_run.specs.Moves.{last, moves_on}
use Rattle.run_search.specs.First.{AreFirst}
use Rattle.run_state.proofs.Numbering.{has_body}
use Rattle.run_search.proofs.Placing.{moves_in}
use Rattle.run_search.proofs.search.add_moves_first.Goals as goal

pub add_moves_at_once-requires-clause-first : goal.add_moves_at_once-requires-clause-first
add_moves_at_once-requires-clause-first c =
    let s = c.args.live.now.state in
    let k = c.in-Some.body in
    subst (λ (ms : List Move). AreFirst s ms)
    (moves_in c.args.seat k s c.args.process false c.in-Some.ensures.left
    ∙ ap (λ (ls : List (List Edge)). last (moves_on s c.args.process false (seq_of k)) 0 (map (map (shows k)) ls)) c.in-Some-only_level.ensures)
    c.requires.first

pub add_moves_at_once-requires-clause-stands : goal.add_moves_at_once-requires-clause-stands
add_moves_at_once-requires-clause-stands c = has_body c.args.live.now.state c.args.process c.args.seat c.in-Some.body c.requires.stands c.in-Some.ensures.left
