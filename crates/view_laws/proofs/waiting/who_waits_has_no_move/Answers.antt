use Rattle.view_laws.proofs.Filled.{texts_have_filled_bodies, nothing_where_it_moves}
use Rattle.view_laws.proofs.waiting.who_waits_has_no_move.Goals as goal

pub returns-clause-filled : goal.returns-clause-filled
returns-clause-filled c = texts_have_filled_bodies

pub returns-clause-exactly : goal.returns-clause-exactly
returns-clause-exactly c = nothing_where_it_moves
