-- the proctypes before the loop's are written
use Rattle.std.proofs.Common.{take}
use Rattle.std.specs.List.{flat_map}
use Rattle.view_tokens.specs.Printed.{Writes}
use Rattle.view_json.specs.Steps.{proctype}
use Rattle.view_json.proofs.start.each_proctype.Given as goal

abbrev pub invariant-loop-one : goal.invariant-loop-one
invariant-loop-one l = Writes l.initial.json l.json (flat_map proctype (take l.one-index l.proctypes))
