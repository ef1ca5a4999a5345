use Rattle.view_text.proofs.Writing.{each_more}
use Rattle.view_json.specs.Objects.{field}
use Rattle.view_json.proofs.Writing.{chain}
use Rattle.view_json.proofs.channel.fields.Goals as goal

pub loop-at-preserved : goal.loop-at-preserved
loop-at-preserved c =
    chain _ _ _ _ _ _ c.loop-at.invariant c.field.ensures (each_more (field c.args.live.now.state.program c.args.types.now c.args.numbers.now) c.loop-at.at)
