use Rattle.promela_run.specs.declared.moves.Move.{Move}
use Rattle.view_json.specs.Texts.{TellsMove}
use Rattle.view_json.proofs.Alike.{for_alone, for_pair}
use Rattle.view_json.proofs.texts.parts_of.Goals as goal

pub returns-in-Alone : goal.returns-in-Alone
returns-in-Alone c = for_alone (λ (m : Move). TellsMove c.args.live.now.state m c.parts_alone.result) _ _ _ c.in-Alone.is c.parts_alone.ensures

pub returns-in-Pair : goal.returns-in-Pair
returns-in-Pair c = for_pair (λ (m : Move). TellsMove c.args.live.now.state m c.parts_of_pair.result) _ _ _ _ c.in-Pair.is c.parts_of_pair.ensures
