use Rattle.std.proofs.Common.{◌≡◌, ◌++◌, List, sym, ap, subst, OnOk}
use Rattle.promela_run.specs.declared.moves.Move.{Move}
use Rattle.run_state.proofs.Numbering.{has_body}
use Rattle.run_search.proofs.Placing.{moves_in}
use Rattle.run_search.proofs.process.add_moves_at.Goals as goal

pub returns-in-Some-clause-added : goal.returns-in-Some-clause-added
returns-in-Some-clause-added c =
    subst (λ (l : List Move). OnOk c.add_moves_in.result (c.add_moves_in.new.moves.items ≡ l))
    (ap (λ (z : List Move). c.args.moves.now.items ++ z) (sym (moves_in c.args.seat c.in-Some.body c.args.round.now.live.now.state c.args.process c.args.round.now.timeout c.in-Some.ensures.left)))
    c.add_moves_in.ensures.added

pub add_moves_in-requires-clause-stands : goal.add_moves_in-requires-clause-stands
add_moves_in-requires-clause-stands c = has_body c.args.round.now.live.now.state c.args.process c.args.seat c.in-Some.body c.requires.stands c.in-Some.ensures.left
