-- those before the loop's are written
use Rattle.std.proofs.Common.{take}
use Rattle.std.specs.List.{flat_map}
use Rattle.view_tokens.specs.Printed.{Writes}
use Rattle.view_json.specs.Shown.{changed_cell}
use Rattle.view_json.proofs.changed.each_changed.Given as goal

abbrev pub invariant-loop-change : goal.invariant-loop-change
invariant-loop-change l = Writes l.initial.json l.json (flat_map (changed_cell l.live.state l.frame) (take l.change-index l.changes))
