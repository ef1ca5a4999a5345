use Rattle.view_waits.proofs.Waiting.{moves_without_waiting, waits_without_moves, waits_for_each_offer}
use Rattle.view_waits.proofs.laws.who_has_no_move_waits.Goals as goal

pub returns-clause-moves : goal.returns-clause-moves
returns-clause-moves c = moves_without_waiting

pub returns-clause-waits : goal.returns-clause-waits
returns-clause-waits c = waits_without_moves

pub returns-clause-each : goal.returns-clause-each
returns-clause-each c = waits_for_each_offer
