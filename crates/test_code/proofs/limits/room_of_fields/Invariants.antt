use Rattle.std.proofs.Common.{◌≡◌, max, drop}
use Rattle.run_start.specs.Bound.{room_of_fields}
use Rattle.test_code.proofs.limits.room_of_fields.Given as goal

-- the most by now, and of the other typedefs, is the most of all
abbrev pub invariant-loop-typedef : goal.invariant-loop-typedef
invariant-loop-typedef l = max l.most (room_of_fields (drop l.typedef-index l.typedefs)) ≡ room_of_fields l.typedefs
