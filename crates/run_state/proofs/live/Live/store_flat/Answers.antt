use Rattle.std.proofs.Common.{refl, sym, rules, FitsSigned, w32}
use Rattle.std.proofs.lemmas.Int.{to_z-of_z}
use Rattle.run_state.proofs.Fitting.{ask_in, set_in, set_there, set_fails, set_puts}
use Rattle.run_state.proofs.live.Live.store_flat.Goals as goal

pub flat_worth-requires-clause-there : goal.flat_worth-requires-clause-there
flat_worth-requires-clause-there c =
    set_in c.args.self.now.state c.args.process c.args.statement c.in-Some-Set.field-0.now c.fits.ensures c.in-Some-Set.ensures c.in-Some-Set.word c.in-Some-Set.cell c.in-Some-Set.value c.in-Some-Set.field-0-is

pub put_flat-requires-clause-there : goal.put_flat-requires-clause-there
put_flat-requires-clause-there c =
    set_there c.args.self.now.state c.args.process c.args.statement c.in-Some-Set.field-0.now c.fits.ensures c.in-Some-Set.ensures c.in-Some-Set.word c.in-Some-Set.cell c.in-Some-Set.value c.in-Some-Set.field-0-is

pub flat_worth-requires-in-Some-Ask-clause-there : goal.flat_worth-requires-in-Some-Ask-clause-there
flat_worth-requires-in-Some-Ask-clause-there c =
    ask_in c.args.self.now.state c.args.process c.args.statement c.in-Some-Ask.field-0.now c.fits.ensures c.in-Some-Ask.ensures c.in-Some-Ask.value c.in-Some-Ask.field-0-is

pub returns-in-Err-clause-value : goal.returns-in-Err-clause-value
returns-in-Err-clause-value c x timeout k =
    rw (set_fails c.args.self.now.state c.args.process c.args.statement c.in-Some-Set.field-0.now c.fits.ensures c.in-Some-Set.ensures x timeout k c.in-Some-Set.word c.in-Some-Set.cell c.in-Some-Set.value
    c.in-Err.fault c.in-Some-Set.field-0-is (sym c.in-Err.ensures)) refl

pub returns-in-Ok-clause-value : goal.returns-in-Ok-clause-value
returns-in-Ok-clause-value c x timeout k =
    let g : FitsSigned w32 c.in-Ok.number = search rules in
    let n = to_z-of_z w32 c.in-Ok.number g in
    set_puts c.args.self.now.state c.args.process c.args.statement c.in-Some-Set.field-0.now c.fits.ensures c.in-Some-Set.ensures x timeout k c.in-Some-Set.word c.in-Some-Set.cell c.in-Some-Set.value c.in-Ok.number
    c.put_flat.result c.put_flat.new.self.state c.in-Some-Set.field-0-is (sym c.in-Ok.ensures) (rw n at c.put_flat.ensures.value)
