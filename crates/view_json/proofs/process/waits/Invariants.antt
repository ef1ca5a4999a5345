-- those before the loop's are written
use Rattle.std.proofs.Common.{take}
use Rattle.view_json.specs.Objects.{AddsWaits}
use Rattle.view_json.proofs.process.waits.Given as goal

abbrev pub invariant-loop-one : goal.invariant-loop-one
invariant-loop-one l = AddsWaits l.live.state l.process (take l.one-index l.waits) l.initial.json l.json
