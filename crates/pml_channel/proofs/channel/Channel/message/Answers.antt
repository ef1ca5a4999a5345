use Rattle.std.proofs.Common.{◌<◌, length}
use Rattle.pml_channel.proofs.Keeping.{length-messages, message-at, ends-within, message-length}
use Rattle.pml_channel.proofs.channel.Channel.message.Goals as goal

pub message_in-requires : goal.message_in-requires
message_in-requires c =
    let there : c.args.place < c.self.inside.count = rw (← c.self.view_is, length-messages) at c.requires in
    let within = ends-within c.self.inside.start c.args.place c.self.inside.count (length c.self.inside.types) there in
    rw (c.len-fields.ensures, c.as_slice.ensures.value, c.self.invariant.cover) within

pub returns-clause-value : goal.returns-clause-value
returns-clause-value c =
    let there : c.args.place < c.self.inside.count = rw (← c.self.view_is, length-messages) at c.requires in
    rw (← c.self.view_is, c.message_in.ensures, c.len-fields.ensures, c.as_slice.ensures.value) (message-at _ _ _ _ _ there)

pub returns-clause-arity : goal.returns-clause-arity
returns-clause-arity c =
    let there : c.args.place < c.self.inside.count = rw (← c.self.view_is, length-messages) at c.requires in
    let long = message-length c.self.inside.start c.args.place c.self.inside.count (length c.self.inside.types) c.self.inside.numbers.items there c.self.invariant.cover in
    rw (← c.self.view_is, c.message_in.ensures, c.len-fields.ensures, c.as_slice.ensures.value) long
