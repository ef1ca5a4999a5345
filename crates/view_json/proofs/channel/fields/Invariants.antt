-- the fields before the loop's are written
use Rattle.std.specs.List.{flat_map, range_with_len}
use Rattle.view_tokens.specs.Printed.{Writes}
use Rattle.view_json.specs.Objects.{field}
use Rattle.view_json.proofs.channel.fields.Given as goal

abbrev pub invariant-loop-at : goal.invariant-loop-at
invariant-loop-at l = Writes l.initial.json l.json (flat_map (field l.live.state.program l.types l.numbers) (range_with_len 0 l.at))
