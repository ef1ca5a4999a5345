use Rattle.std.proofs.Common.{sym, subst}
use Rattle.promela_run.specs.declared.moves.Move.{Move}
use Rattle.view_json.specs.Choices.{AddsChoice}
use Rattle.view_json.proofs.choice.add_choice.Goals as goal

pub returns-in-Alone-clause-choice : goal.returns-in-Alone-clause-choice
returns-in-Alone-clause-choice c =
    subst (λ (m : Move). AddsChoice c.args.live.now.state m c.args.json.now c.add_alone.new.json) (sym c.in-Alone.is) c.add_alone.ensures.choice

pub returns-in-Pair-clause-choice : goal.returns-in-Pair-clause-choice
returns-in-Pair-clause-choice c =
    subst (λ (m : Move). AddsChoice c.args.live.now.state m c.args.json.now c.add_pair.new.json) (sym c.in-Pair.is) c.add_pair.ensures.choice
