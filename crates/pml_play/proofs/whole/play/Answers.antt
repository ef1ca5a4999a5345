use Rattle.pml_play.proofs.Outcomes.{replays}
use Rattle.pml_play.proofs.whole.play.Goals as goal

pub returns-in-Ok-clause-left : goal.returns-in-Ok-clause-left
returns-in-Ok-clause-left g c = g.met.D.Devices.some_left c.stages.new.devices

pub returns-in-Err-clause-left : goal.returns-in-Err-clause-left
returns-in-Err-clause-left g c = g.met.D.Devices.some_left c.stages.new.devices

pub returns-in-Ok-clause-replay : goal.returns-in-Ok-clause-replay
returns-in-Ok-clause-replay g c part is = replays is

pub returns-in-Err-clause-replay : goal.returns-in-Err-clause-replay
returns-in-Err-clause-replay g c part is = replays is
