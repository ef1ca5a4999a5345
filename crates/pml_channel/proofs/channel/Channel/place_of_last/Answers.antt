use Rattle.std.proofs.Common.{◌-◌, sym, ap}
use Rattle.pml_channel.proofs.Keeping.{placed-here, not-placed-here}
use Rattle.pml_channel.proofs.channel.Channel.place_of_last.Goals as goal

pub returns-then-greater : goal.returns-then-greater
returns-then-greater c others last same =
    placed-here c.args.self.now.messages others last _ _ c.loop-place.place (c.len-others.result - 1) same (ap (λ n. n - 1) c.len-others.ensures.value) c.loop-place-test.true c.message.ensures.value c.message-in-loop-place.ensures.value (sym c.if-greater.ensures) (c.loop-place.invariant others last same)

pub loop-place-preserved : goal.loop-place-preserved
loop-place-preserved c others last same =
    not-placed-here c.args.self.now.messages others last _ _ c.loop-place.place (c.len-others.result - 1) same (ap (λ n. n - 1) c.len-others.ensures.value) c.loop-place-test.true c.message.ensures.value c.message-in-loop-place.ensures.value (sym c.if-greater.ensures) (c.loop-place.invariant others last same)
