use Rattle.std.proofs.Common.{◌≤◌, length}
use Rattle.view_json.specs.Before.{couple_alike}
use Rattle.view_json.proofs.Places.{NoneOf}
use Rattle.view_json.proofs.couples.place_of.Given as goal

abbrev pub invariant-loop-at : goal.invariant-loop-at
invariant-loop-at l = (l.at ≤ length l.all) × NoneOf (couple_alike l.of) l.all l.at
