-- the cells of the variables before the loop's are written
use Rattle.std.specs.List.{flat_map, range_with_len}
use Rattle.view_tokens.specs.Printed.{Writes}
use Rattle.view_json.specs.Objects.{variable_cells}
use Rattle.view_json.proofs.objects.members.Given as goal

abbrev pub invariant-loop-variable : goal.invariant-loop-variable
invariant-loop-variable l = Writes l.initial.json l.json (flat_map (variable_cells l.live.state l.frame) (range_with_len 0 l.variable))
