use Rattle.std.proofs.Common.{rules, ◌≡◌, ap, Err}
use Rattle.promela_run.specs.World.{Running}
use Rattle.run_step.proofs.Taking.{pair_stops, pair_goes}
use Rattle.run_step.proofs.take.pass_on.Goals as goal

pub returns-in_err-pass-clause-value : goal.returns-in_err-pass-clause-value
returns-in_err-pass-clause-value c text =
    let is : c.from_residual.result ≡ Err c.in_err-pass.field-0.0 = search rules in
    rw is
    (pair_stops c.args.live.now.state c.args.sender c.args.receiver c.args.timeout c.args.sent.now c.args.received.now c.requires.sends c.requires.receives c.in_err-pass.field-0.0 c.pass.new.live.state text c.in_err-pass.ensures.value)

pub returns-clause-value : goal.returns-clause-value
returns-clause-value c text =
    let keeps = c.in_ok-pass.ensures.keeps in
    pair_goes c.args.live.now.state c.args.sender c.args.receiver c.args.timeout c.args.sent.now c.args.received.now c.requires.sends c.requires.receives tt c.pass.new.live.state c.go_to.new.self.state c.follow.new.self.state text
    c.in_ok-pass.ensures.value keeps.program keeps.stands (ap (λ (l : Running). l.state) c.go_to.ensures) (ap (λ (l : Running). l.state) c.follow.ensures)
