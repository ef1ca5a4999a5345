-- the processes before the loop's are written
use Rattle.std.specs.List.{flat_map, range_with_len}
use Rattle.view_tokens.specs.Printed.{Writes}
use Rattle.view_json.specs.Lines.{stuck}
use Rattle.view_json.proofs.lines.each_stuck.Given as goal

abbrev pub invariant-loop-process : goal.invariant-loop-process
invariant-loop-process l = Writes l.initial.json l.json (flat_map (stuck l.live.state) (range_with_len 0 l.process))
