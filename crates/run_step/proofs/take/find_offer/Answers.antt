use Rattle.run_state.proofs.Numbering.{has_body, numbered}
use Rattle.run_step.proofs.take.find_offer.Goals as goal

pub returns-clause-numbered : goal.returns-clause-numbered
returns-clause-numbered c =
    let s = c.args.live.now.state in
    let k = c.in_ok-offered.offered.body in
    let p = c.in_ok-offered.ensures.is in
    rw c.basic-basic.ensures (numbered s c.args.pick.process k c.in_ok-offered.offered.edge.now p.stands.is (has_body s c.args.pick.process p.seat k p.at p.stands))
