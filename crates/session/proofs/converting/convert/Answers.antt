use Rattle.std.proofs.Common.{refl, None}
use Rattle.devices.specs.Holdings.{Holdings}
use Rattle.devices.specs.Doing.{holding}
use Rattle.session.proofs.Conversions.{converts_counted, stands, breaks_off}
use Rattle.session.proofs.Placing.{can_be_converted}
use Rattle.session.proofs.converting.convert.Goals as goal

pub returns-in-Ok-clause-left : goal.returns-in-Ok-clause-left
returns-in-Ok-clause-left g c = g.met.S.Source.some_left c.run_noting.new.devices.source

pub returns-in-Err-clause-left : goal.returns-in-Err-clause-left
returns-in-Err-clause-left g c = g.met.S.Source.some_left c.run_noting.new.devices.source

pub returns-in-Ok-clause-whole : goal.returns-in-Ok-clause-whole
returns-in-Ok-clause-whole g c own =
    let before : Holdings = holding (g.S.Source.may_give c.args.devices.now.source) None (g.O.Sink.taken c.args.devices.now.out) (g.S.Source.failures c.args.devices.now.source) 0 (g.O.Sink.failures c.args.devices.now.out) in
    let after : Holdings = holding (g.S.Source.may_give c.run_noting.new.devices.source) None (g.O.Sink.taken c.run_noting.new.devices.out) (g.S.Source.failures c.run_noting.new.devices.source) 0 (g.O.Sink.failures c.run_noting.new.devices.out) in
    converts_counted g.M.Machine.rules c.args.options.now c.args.machine.now before after c.run_noting.new.steps c.in-Ok.end c.in-Ok.ensures.own.counted (rw c.quiet.ensures at c.in-Ok.ensures.part)

pub returns-in-Ok-clause-stands : goal.returns-in-Ok-clause-stands
returns-in-Ok-clause-stands g c own = stands g.M.Machine.rules c.args.options.now c.args.machine.now _ _ c.run_noting.new.steps c.in-Ok.end (rw c.quiet.ensures at c.in-Ok.ensures.part)

pub returns-in-Err-clause-broken : goal.returns-in-Err-clause-broken
returns-in-Err-clause-broken g c six =
    rw (c.end_of.ensures, c.failure_converting.ensures) (breaks_off g.M.Machine.rules c.args.options.now c.args.machine.now _ _ c.run_noting.new.steps c.in-Err.broken refl (rw c.quiet.ensures at c.in-Err.ensures.part) c.in-Err.ensures.count)

pub returns-in-Ok-clause-law : goal.returns-in-Ok-clause-law
returns-in-Ok-clause-law g c = can_be_converted g.M.Machine.rules c.args.options.now c.args.machine.now

pub returns-in-Err-clause-law : goal.returns-in-Err-clause-law
returns-in-Err-clause-law g c = can_be_converted g.M.Machine.rules c.args.options.now c.args.machine.now
