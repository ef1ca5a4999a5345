use Rattle.std.proofs.Common.{arith, ◌≡◌, ◌*◌, drop, length, length-drop}
use Rattle.std.proofs.Math.Nat.{mul-le-mul_right}
use Rattle.pml_channel.specs.Laid.{numbers_in, messages_in}
use Rattle.pml_channel.proofs.Keeping.{numbers-are}
use Rattle.pml_channel.proofs.channel.Channel.numbers.Goals as goal

pub returns : goal.returns
returns c =
    let s = c.self.inside in
    let n = s.count in
    let k = length s.types in
    let d = length-drop s.start s.numbers.items in
    let e : numbers_in (messages_in n k (drop s.start s.numbers.items)) ≡ n * k = numbers-are n k (drop s.start s.numbers.items) (omega (arith, d, c.self.invariant.cover)) in
    let m = mul-le-mul_right k c.self.invariant.few in
    let l = s.numbers.ok.0 in
    rw (← c.self.view_is) (record { value = omega (arith, e, l, c.self.invariant.cover); few = omega (arith, l, c.self.invariant.cover, m) })
