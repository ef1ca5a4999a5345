use Rattle.std.proofs.Common.{◌≡◌, ◌≤◌, drop}
use Rattle.offered_names.specs.Standing.{stands, nowhere}
use Rattle.offered_names.proofs.standing.stands.Given as goal

abbrev pub invariant-loop-i : goal.invariant-loop-i
invariant-loop-i l = record {
  few : l.standing.depth ≤ l.i;
  rest : stands l.standing (drop l.i l.tokens) ≡ stands nowhere l.tokens;
}
