use Rattle.std.proofs.Common.{◌≡◌, ◌<◌, ◌+◌, ◌++◌, length, drop, List, ℤ, ap, ◌∙◌, arith}
use Rattle.promela_process.specs.Store.{cut}
use Rattle.pml_channel.specs.Laid.{messages_in}
use Rattle.pml_channel.proofs.Keeping.{length-messages, length-cut, sent, sent-laid}
use Rattle.pml_channel.proofs.channel.Channel.send.Goals as goal

pub invariant_of-self-2 : goal.invariant_of-self-2
invariant_of-self-2 c =
    let now = c.self.view_is ∙ c.reclaim.ensures in
    let room : c.self.inside.count < c.self.inside.capacity = rw (← now, length-messages) at c.requires.room in
    let arity : length c.args.fields.now ≡ length c.self.inside.types = rw (← now) at c.requires.arity in
    let all : c.append.new.numbers.items ≡ c.self.inside.numbers.items ++ cut c.self.inside.types c.args.fields.now = rw c.as_slice.ensures at c.in_ok-append.ensures.ok in
    record {
      few = omega (arith, room);
      cover = ap length all ∙ sent-laid c.self.inside.start c.self.inside.count c.self.inside.types c.self.inside.numbers.items c.args.fields.now c.self.invariant.cover arity;
    }

pub returns-clause-ok : goal.returns-clause-ok
returns-clause-ok c =
    let now = c.self.view_is ∙ c.reclaim.ensures in
    let arity : length c.args.fields.now ≡ length c.self.inside.types = rw (← now) at c.requires.arity in
    let all : c.append.new.numbers.items ≡ c.self.inside.numbers.items ++ cut c.self.inside.types c.args.fields.now = rw c.as_slice.ensures at c.in_ok-append.ensures.ok in
    let e =
    ap (λ (xs : List ℤ). messages_in (c.self.inside.count + 1) (length c.self.inside.types) (drop c.self.inside.start xs)) all
    ∙ sent c.self.inside.start c.self.inside.count (length c.self.inside.types) c.self.inside.numbers.items (cut c.self.inside.types c.args.fields.now) c.self.invariant.cover (length-cut _ _ arity) in
    rw (← now) (ap (λ (ms : List (List ℤ)). record { capacity = c.self.inside.capacity; types = c.self.inside.types; messages = ms }) e)
