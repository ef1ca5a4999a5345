use Rattle.std.proofs.Common.{ap}
use Rattle.promela_run.specs.declared.moves.Move.TheVariants.{Alone}
use Rattle.view_tokens.specs.Printed.{Printed}
use Rattle.view_json.proofs.Choices.{choice_refused}
use Rattle.view_json.proofs.singles.add_at.Goals as goal

pub returns-else-at-len-clause-choice : goal.returns-else-at-len-clause-choice
returns-else-at-len-clause-choice c =
    choice_refused c.args.live.now.state (Alone c.args.pick c.args.is_late) c.args.json.now c.refuse.new.self (ap (λ (j : Printed). j.refused) c.refuse.ensures)
