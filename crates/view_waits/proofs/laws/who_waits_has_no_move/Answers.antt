use Rattle.view_waits.proofs.Filled.{waits_exactly, kept_stand}
use Rattle.view_waits.proofs.laws.who_waits_has_no_move.Goals as goal

pub returns-clause-exactly : goal.returns-clause-exactly
returns-clause-exactly c s filled at_nodes p lives = waits_exactly s filled at_nodes p lives

pub returns-clause-kept : goal.returns-clause-kept
returns-clause-kept c = kept_stand
