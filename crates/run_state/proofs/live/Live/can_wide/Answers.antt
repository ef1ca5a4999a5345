use Rattle.std.proofs.Common.{sym, ◌∙◌}
use Rattle.run_state.proofs.Widely.{wide_in, wide_cans}
use Rattle.run_state.proofs.live.Live.can_wide.Goals as goal

pub wide_taken-requires-clause-there : goal.wide_taken-requires-clause-there
wide_taken-requires-clause-there c = wide_in c.args.self.now.state c.args.process c.args.statement c.in-Some.code.now c.fits.ensures c.in-Some.ensures

pub returns-in-Some : goal.returns-in-Some
returns-in-Some c x timeout d k =
    c.wide_taken.ensures ∙ sym (wide_cans c.args.self.now.state c.args.process c.args.statement c.in-Some.code.now c.fits.ensures c.in-Some.ensures x timeout k d)
