use Rattle.view_json.proofs.Choices.{none_listed}
use Rattle.view_json.proofs.choice.choices_of.Goals as goal

pub returns-else-moves-gt1 : goal.returns-else-moves-gt1
returns-else-moves-gt1 c = none_listed c.args.live.now.state c.args.moves.now _ c.if-moves-gt1.false c.new.ensures
