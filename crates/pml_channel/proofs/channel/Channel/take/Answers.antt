use Rattle.std.proofs.Common.{◌≡◌, ◌<◌, ◌≤◌, ◌+◌, length, List, ℤ, ap, ◌∙◌, arith}
use Rattle.std.specs.Prelude.{vec_len}
use Rattle.pml_channel.proofs.Keeping.{length-messages, ends-in, length-rotated, gone-in, less-laid}
use Rattle.pml_channel.proofs.channel.Channel.take.Goals as goal

pub end_of-end-requires : goal.end_of-end-requires
end_of-end-requires c =
    let there : c.args.place < c.self.inside.count = rw (← c.self.view_is, length-messages) at c.requires in
    rw c.as_slice.ensures.value (ends-in _ _ _ _ _ _ c.len-fields.ensures c.self.invariant.cover there)

pub rotate-requires-clause-within : goal.rotate-requires-clause-within
rotate-requires-clause-within c =
    let there : c.args.place < c.self.inside.count = rw (← c.self.view_is, length-messages) at c.requires in
    let within = ends-in c.self.inside.start c.args.place c.self.inside.count c.len-fields.result (length c.self.inside.types) (length c.self.inside.numbers.items) c.len-fields.ensures c.self.invariant.cover there in
    let long : length c.self.inside.numbers.items ≡ vec_len c.self.inside.numbers = rw c.as_slice.ensures.value at c.as_slice.ensures.len in
    omega (arith, within, long, c.end_of-end.ensures)

pub invariant_of-self : goal.invariant_of-self
invariant_of-self c =
    let there : c.args.place < c.self.inside.count = rw (← c.self.view_is, length-messages) at c.requires in
    let within = ends-in c.self.inside.start c.args.place c.self.inside.count c.len-fields.result (length c.self.inside.types) (length c.self.inside.numbers.items) c.len-fields.ensures c.self.invariant.cover there in
    let order : c.self.inside.start + c.len-fields.result ≤ c.end_of-end.result = omega (arith, c.end_of-end.ensures) in
    let end : c.end_of-end.result ≤ length c.self.inside.numbers.items = omega (arith, within, c.end_of-end.ensures) in
    let same = ap length c.rotate.ensures ∙ length-rotated _ _ _ _ order end in
    record {
      few = omega (arith, c.self.invariant.few);
      cover = less-laid c.self.inside.start c.args.place c.self.inside.count c.len-fields.result (length c.self.inside.types) c.self.inside.numbers.items c.rotate.new.numbers.items c.len-fields.ensures c.self.invariant.cover there same;
    }

pub returns : goal.returns
returns c =
    let there : c.args.place < c.self.inside.count = rw (← c.self.view_is, length-messages) at c.requires in
    let e = gone-in c.self.inside.start c.args.place c.self.inside.count c.len-fields.result (length c.self.inside.types) c.end_of-end.result c.self.inside.numbers.items c.rotate.new.numbers.items c.len-fields.ensures c.self.invariant.cover there c.end_of-end.ensures c.rotate.ensures in
    rw (← c.self.view_is) (ap (λ (ms : List (List ℤ)). record { capacity = c.self.inside.capacity; types = c.self.inside.types; messages = ms }) e)
