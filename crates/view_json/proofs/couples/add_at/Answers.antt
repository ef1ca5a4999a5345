use Rattle.std.proofs.Common.{ap}
use Rattle.std.proofs.lemmas.List.Elements.{All-set}
use Rattle.promela_run.specs.declared.moves.Move.TheVariants.{Pair}
use Rattle.view_tokens.specs.Printed.{Printed}
use Rattle.view_json.specs.Before.{Meets}
use Rattle.view_json.proofs.Choices.{choice_refused}
use Rattle.view_json.proofs.couples.add_at.Goals as goal

pub returns-then-at-len-clause-meet : goal.returns-then-at-len-clause-meet
returns-then-at-len-clause-meet c =
    All-set (Meets c.args.live.now.state) c.args.last.now.all.items c.args.at c.add_couple.new.last c.add_couple.ensures.meets c.requires.meet

pub returns-else-at-len-clause-choice : goal.returns-else-at-len-clause-choice
returns-else-at-len-clause-choice c =
    choice_refused c.args.live.now.state (Pair c.args.of.sender c.args.of.receiver c.args.of.is_late) c.args.json.now c.refuse.new.self (ap (λ (j : Printed). j.refused) c.refuse.ensures)
