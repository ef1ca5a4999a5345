use Rattle.std.proofs.Common.{◌≡◌, ◌<◌, ◌≤◌, ◌+◌, ◌-◌, length, List, ℤ, sym, ap, ◌∙◌, arith}
use Rattle.std.specs.Prelude.{vec_len}
use Rattle.pml_channel.proofs.Keeping.{length-messages, ends-in, length-rotated, moved-in}
use Rattle.pml_channel.proofs.channel.Channel.move_last.Goals as goal

pub end_of-requires : goal.end_of-requires
end_of-requires c =
    let there : c.args.place < c.self.inside.count = rw (← c.self.view_is, length-messages) at c.requires in
    rw c.as_slice.ensures.value (ends-in _ _ _ _ _ _ c.len-fields.ensures c.self.invariant.cover there)

pub rotate-requires-clause-order : goal.rotate-requires-clause-order
rotate-requires-clause-order c =
    let there : c.args.place < c.self.inside.count = rw (← c.self.view_is, length-messages) at c.requires in
    let within = ends-in c.self.inside.start c.args.place c.self.inside.count c.len-fields.result (length c.self.inside.types) (length c.self.inside.numbers.items) c.len-fields.ensures c.self.invariant.cover there in
    let long : length c.self.inside.numbers.items ≡ vec_len c.self.inside.numbers = rw c.as_slice.ensures.value at c.as_slice.ensures.len in
    omega (arith, within, long, c.end_of.ensures, c.len-end.ensures)

pub invariant_of-self : goal.invariant_of-self
invariant_of-self c =
    let there : c.args.place < c.self.inside.count = rw (← c.self.view_is, length-messages) at c.requires in
    let within = ends-in c.self.inside.start c.args.place c.self.inside.count c.len-fields.result (length c.self.inside.types) (length c.self.inside.numbers.items) c.len-fields.ensures c.self.invariant.cover there in
    let long : length c.self.inside.numbers.items ≡ vec_len c.self.inside.numbers = rw c.as_slice.ensures.value at c.as_slice.ensures.len in
    let order : c.end_of.result - c.len-fields.result + c.len-fields.result ≤ c.len-end.result = omega (arith, within, long, c.end_of.ensures, c.len-end.ensures) in
    let end : c.len-end.result ≤ length c.self.inside.numbers.items = omega (arith, long, c.len-end.ensures) in
    record { few = c.self.invariant.few; cover = ap length c.rotate.ensures ∙ length-rotated _ _ _ _ order end ∙ c.self.invariant.cover }

pub returns : goal.returns
returns c others last same =
    let there : c.args.place < c.self.inside.count = rw (← c.self.view_is, length-messages) at c.requires in
    let long : length c.self.inside.numbers.items ≡ vec_len c.self.inside.numbers = rw c.as_slice.ensures.value at c.as_slice.ensures.len in
    let was = rw (← c.self.view_is) at same in
    let e = moved-in c.self.inside.start c.args.place c.self.inside.count c.len-fields.result (length c.self.inside.types) c.end_of.result c.len-end.result c.self.inside.numbers.items c.rotate.new.numbers.items others last c.len-fields.ensures c.self.invariant.cover there c.end_of.ensures (c.len-end.ensures ∙ sym long) c.rotate.ensures was in
    rw (← c.self.view_is) (ap (λ (ms : List (List ℤ)). record { capacity = c.self.inside.capacity; types = c.self.inside.types; messages = ms }) e)
