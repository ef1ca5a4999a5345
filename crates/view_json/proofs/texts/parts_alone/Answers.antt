use Rattle.std.proofs.Common.{refl}
use Rattle.view_json.proofs.Alike.{tells_alone}
use Rattle.view_json.proofs.texts.parts_alone.Goals as goal

pub returns : goal.returns
returns c = λ late some. tells_alone c.args.live.now.state c.args.pick late c.args.pick.process c.text_at.result.now 0 refl c.text_at.ensures some
