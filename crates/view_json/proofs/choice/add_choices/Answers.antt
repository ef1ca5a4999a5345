use Rattle.view_json.proofs.Choices.{choices_none, choices_more}
use Rattle.view_json.proofs.choice.add_choices.Goals as goal

pub loop-m-init : goal.loop-m-init
loop-m-init c = (choices_none c.args.live.now.state _, c.new-before.ensures c.args.live.now.state)

pub loop-m-preserved : goal.loop-m-preserved
loop-m-preserved c = (
  choices_more c.args.live.now.state c.loop-m.m-index c.args.moves.now _ _ _ _ c.loop-m-test.true c.loop-m.invariant.0 c.add_choice.ensures.choice.0 c.add_choice.ensures.choice.1,
  c.add_choice.ensures.goes,
)
