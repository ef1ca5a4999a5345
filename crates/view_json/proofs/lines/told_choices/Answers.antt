use Rattle.view_json.proofs.Choices.{choices_told, choices_untold}
use Rattle.view_json.proofs.lines.told_choices.Goals as goal

pub returns-then-moves-most : goal.returns-then-moves-most
returns-then-moves-most c = choices_told c.args.live.now.state c.args.moves.now _ _ _ c.if-moves-most.true c.each_choice.ensures

pub returns-else-moves-most : goal.returns-else-moves-most
returns-else-moves-most c = choices_untold c.args.live.now.state c.args.moves.now _ _ c.if-moves-most.false
