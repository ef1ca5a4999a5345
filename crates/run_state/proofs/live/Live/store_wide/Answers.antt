use Rattle.std.proofs.Common.{refl, sym}
use Rattle.run_state.proofs.Widely.{wide_in, wide_there, wide_fails, wide_puts}
use Rattle.run_state.proofs.live.Live.store_wide.Goals as goal

pub wide_stored-requires-clause-there : goal.wide_stored-requires-clause-there
wide_stored-requires-clause-there c = wide_in c.args.self.now.state c.args.process c.args.statement c.in-Some.code.now c.fits.ensures c.in-Some.ensures

pub put_wide-requires : goal.put_wide-requires
put_wide-requires c = wide_there c.args.self.now.state c.args.process c.args.statement c.in-Some.code.now c.fits.ensures c.in-Some.ensures c.in-Ok.goes (sym c.in-Ok.ensures)

pub returns-in-Err-clause-value : goal.returns-in-Err-clause-value
returns-in-Err-clause-value c x timeout k =
    rw (wide_fails c.args.self.now.state c.args.process c.args.statement c.in-Some.code.now c.fits.ensures c.in-Some.ensures x timeout k c.in-Err.fault (sym c.in-Err.ensures)) refl

pub returns-in-Ok-clause-value : goal.returns-in-Ok-clause-value
returns-in-Ok-clause-value c x timeout k =
    wide_puts c.args.self.now.state c.args.process c.args.statement c.in-Some.code.now c.fits.ensures c.in-Some.ensures x timeout k c.in-Ok.goes c.put_wide.result c.put_wide.new.self.state (sym c.in-Ok.ensures) c.put_wide.ensures.value
