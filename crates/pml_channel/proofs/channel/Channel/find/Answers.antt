use Rattle.std.proofs.Common.{◌<◌, length, sym, ◌∙◌}
use Rattle.promela_process.specs.Expressions.{matched}
use Rattle.pml_channel.proofs.Keeping.{found-here, not-here}
use Rattle.pml_channel.proofs.channel.Channel.find.Goals as goal

pub returns-then-matches-clause-value : goal.returns-then-matches-clause-value
returns-then-matches-clause-value c =
    let within : c.loop-place.place < length c.args.self.now.messages = rw c.len-place-end.ensures.value at c.loop-place-test.true in
    sym (found-here (matched c.args.sought.now) _ _ _ within c.message.ensures.value (sym c.if-matches.ensures)) ∙ c.loop-place.invariant

pub loop-place-preserved : goal.loop-place-preserved
loop-place-preserved c =
    let within : c.loop-place.place < length c.args.self.now.messages = rw c.len-place-end.ensures.value at c.loop-place-test.true in
    not-here (matched c.args.sought.now) _ _ _ within c.message.ensures.value (sym c.if-matches.ensures) ∙ c.loop-place.invariant
