use Rattle.promela_run.specs.World.{move_text}
use Rattle.view_text.proofs.Writing.{item_more}
use Rattle.view_json.specs.Objects.{text}
use Rattle.view_json.proofs.Writing.{chain}
use Rattle.view_json.proofs.texts.move_texts.Goals as goal

pub loop-m-preserved : goal.loop-m-preserved
loop-m-preserved c = (
  chain _ _ _ _ _ _ c.loop-m.invariant.0 c.add_text.ensures.written
      (item_more (λ m. text (move_text c.args.live.now.state m)) c.args.moves.now c.loop-m.m-index _ c.loop-m-test.true),
  c.add_text.ensures.read,
)
