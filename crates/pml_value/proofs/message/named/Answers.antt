use Rattle.std.proofs.Common.{length, w32, to_z, of_z, sym, ap, ◌∙◌}
use Rattle.promela_process.specs.Store.{ChannelState}
use Rattle.pml_value.proofs.Channels.{contents-of}
use Rattle.pml_value.proofs.message.named.Goals as goal

pub returns-clause-arity : goal.returns-clause-arity
returns-clause-arity c =
    let here = contents-of c.args.view.now.channels.now (to_z w32 (of_z w32 c.number-number.result)) c.in-Some.channel.now (sym c.in-Some.ensures) in
    c.if-count-types.false ∙ ap length c.types.ensures ∙ ap (λ (d : ChannelState). length d.types) (sym here)
