use Rattle.std.proofs.Common.{◌∙◌}
use Rattle.view_json.proofs.Alike.{alike_is, alike_calm, same_single}
use Rattle.view_json.proofs.single.settle.Goals as goal

pub returns-then-is_same-clause-tells : goal.returns-then-is_same-clause-tells
returns-then-is_same-clause-tells c =
    let s = c.args.live.now.state in
    let first = c.args.last.now.first in
    let same = c.requires.alike in
    let of = alike_is s first c.args.pick c.args.seen c.requires.seen c.requires.tells.first same in record {
      first = λ calm. of;
      effect = c.requires.tells.effect;
      whole = λ calm. c.requires.tells.whole calm ∙ same_single s first c.args.pick c.requires.tells.effect (c.requires.tells.first (alike_calm first c.args.pick.process c.args.seen same)) of;
    }
