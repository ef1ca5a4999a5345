-- the cells before the loop's are written
use Rattle.std.specs.List.{flat_map, range_with_len}
use Rattle.view_cells.specs.Cells.{place}
use Rattle.view_tokens.specs.Printed.{Writes}
use Rattle.view_json.specs.Objects.{cell}
use Rattle.view_json.proofs.objects.cells_of.Given as goal

abbrev pub invariant-loop-at : goal.invariant-loop-at
invariant-loop-at l = Writes l.initial.json l.json (flat_map (λ at. cell l.live.state (place l.frame l.variable at)) (range_with_len 0 l.at))
