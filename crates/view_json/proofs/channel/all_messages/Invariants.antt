-- the messages before the loop's are written
use Rattle.std.proofs.Common.{take}
use Rattle.std.specs.List.{flat_map}
use Rattle.view_tokens.specs.Printed.{Writes}
use Rattle.view_json.specs.Objects.{message}
use Rattle.view_json.proofs.channel.all_messages.Given as goal

abbrev pub invariant-loop-place : goal.invariant-loop-place
invariant-loop-place l = Writes l.initial.json l.json (flat_map (message l.live.state.program l.channel.types) (take l.place l.channel.messages))
