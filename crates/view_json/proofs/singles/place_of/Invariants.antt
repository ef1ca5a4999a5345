use Rattle.std.proofs.Common.{◌≤◌, length}
use Rattle.view_json.specs.Before.{single_alike}
use Rattle.view_json.proofs.Places.{NoneOf}
use Rattle.view_json.proofs.singles.place_of.Given as goal

abbrev pub invariant-loop-at : goal.invariant-loop-at
invariant-loop-at l = (l.at ≤ length l.all) × NoneOf (single_alike l.process l.seen) l.all l.at
