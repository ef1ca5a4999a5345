use Rattle.std.proofs.Common.{take}
use Rattle.view_text.specs.Written.{Adds}
use Rattle.view_walk.specs.Records.{record_of}
use Rattle.view_session.proofs.record.add_record.Given as goal

abbrev pub invariant-loop-leg : goal.invariant-loop-leg
invariant-loop-leg l = Adds l.initial.out l.out (record_of (take l.leg-index l.legs))
