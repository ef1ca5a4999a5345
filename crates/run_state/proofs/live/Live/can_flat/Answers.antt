use Rattle.std.proofs.Common.{rules, sym}
use Rattle.run_state.proofs.Fitting.{ask_in, set_can, ask_can, ask_can_fail}
use Rattle.run_state.proofs.live.Live.can_flat.Goals as goal

pub flat_worth-requires-clause-there : goal.flat_worth-requires-clause-there
flat_worth-requires-clause-there c =
    ask_in c.args.self.now.state c.args.process c.args.statement c.in-Some-Ask.field-0.now c.fits.ensures c.in-Some-Ask.ensures c.in-Some-Ask.value c.in-Some-Ask.field-0-is

pub returns-in-Some-Set : goal.returns-in-Some-Set
returns-in-Some-Set c x timeout d k =
    sym (set_can c.args.self.now.state c.args.process c.args.statement c.in-Some-Set.field-0.now c.fits.ensures c.in-Some-Set.ensures x timeout k _ _ _ c.in-Some-Set.field-0-is d)

pub returns-in-Err : goal.returns-in-Err
returns-in-Err c x timeout d k =
    sym (ask_can_fail c.args.self.now.state c.args.process c.args.statement c.in-Some-Ask.field-0.now c.fits.ensures c.in-Some-Ask.ensures x timeout k c.in-Some-Ask.value c.in-Err.field-0 c.in-Some-Ask.field-0-is (sym c.in-Err.ensures) d)

pub returns-in-Ok : goal.returns-in-Ok
returns-in-Ok c x timeout d k =
    rw (ask_can c.args.self.now.state c.args.process c.args.statement c.in-Some-Ask.field-0.now c.fits.ensures c.in-Some-Ask.ensures x timeout k c.in-Some-Ask.value c.in-Ok.number c.in-Some-Ask.field-0-is (sym c.in-Ok.ensures) d)
    (search rules)
