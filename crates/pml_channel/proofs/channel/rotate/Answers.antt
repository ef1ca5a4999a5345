use Rattle.std.proofs.Common.{◌≡◌, ◌≤◌, length, ap, ◌∙◌}
use Rattle.std.proofs.lemmas.List.{take_at}
use Rattle.std.specs.Prelude.{vec_len}
use Rattle.pml_channel.proofs.Keeping.{rotated-is, length-rotated}
use Rattle.pml_channel.proofs.channel.rotate.Goals as goal

pub returns : goal.returns
returns c =
    let xs = c.args.numbers.now.items in
    let long : length xs ≡ vec_len c.args.numbers.now = rw c.as_mut_slice.ensures.value at c.as_mut_slice.ensures.len in
    let within : c.args.end ≤ length xs = rw long c.requires.within in
    let after = rw c.as_mut_slice.ensures.value at c.rotate_right.ensures.after in
    let part = rotated-is c.args.from c.args.end c.args.by xs c.rotate_right.new.self c.requires.order within after in
    let same = length-rotated c.args.from c.args.end c.args.by xs c.requires.order within in
    rw c.as_mut_slice.ensures.value (take_at _ _ _ (ap length part ∙ same ∙ long) ∙ part)
