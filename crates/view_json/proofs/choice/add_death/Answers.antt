use Rattle.std.proofs.Common.{ap}
use Rattle.promela_run.specs.declared.moves.Move.TheVariants.{Death}
use Rattle.view_tokens.specs.Printed.{Printed}
use Rattle.view_json.proofs.Choices.{choice_refused}
use Rattle.view_json.proofs.choice.add_death.Goals as goal

pub returns-in-Err : goal.returns-in-Err
returns-in-Err c = choice_refused c.args.live.now.state (Death c.args.process) c.args.json.now c.refuse.new.self (ap (λ (j : Printed). j.refused) c.refuse.ensures)
