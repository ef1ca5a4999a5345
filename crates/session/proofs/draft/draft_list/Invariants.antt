use Rattle.std.proofs.Common.{◌≡◌, ◌+◌, ◌++◌, drop}
use Rattle.promela_session.specs.Events.{list_from}
use Rattle.session.proofs.draft.draft_list.Given as goal

abbrev pub invariant-loop-i : goal.invariant-loop-i
invariant-loop-i g l = l.draft.piece.items ++ list_from (g.M.Machine.rules.text l.machine) (l.i + 1) (drop l.i l.moves) ≡ list_from (g.M.Machine.rules.text l.machine) 1 l.moves
