use Rattle.std.proofs.Common.{rules, nat_eq, not}
use Rattle.std.proofs.lemmas.Fn.{filter_same}
use Rattle.promela_run.specs.declared.live_channel.LiveChannel.{LiveChannel}
use Rattle.run_state.proofs.channels.keep_others.Goals as goal

pub returns : goal.returns
returns c = filter_same _ (λ (o : LiveChannel). not (nat_eq o.frame c.args.frame)) _ (λ x b f' k. search rules) _ _ c.retain.ensures.filtered
