-- What is read of choices where a run is replayed.
use Rattle.std.specs.Prelude.{List, Result}
use Rattle.devices.specs.Holdings.{Holdings}
use Rattle.devices.specs.declared.either.Nowhere.{Nowhere}
use Rattle.devices.specs.declared.three.ThreeDevices.{ThreeDevices}
use Rattle.promela_run.specs.World.{Running, rules}
use Rattle.promela_run.specs.declared.moves.Move.{Move}
use Rattle.promela_session.specs.declared.choice.Answer.{Answer}
use Rattle.promela_session.specs.declared.ends.Broken.{Broken}
use Rattle.view_session.specs.declared.replay.BadLines.{BadLines}
use Rattle.view_session.specs.declared.replay.ReplayReading.{ReplayReading}
use Rattle.session.specs.Answers.{question_at}
use Rattle.session.specs.Writes.{PlaysQuestion}

-- The question of a session for one of a state's moves was asked: what was read is what it reads, and the answer its own, or it was broken off.
abbrev pub ReadsAnswer : {S : Type 0} → Result Answer Broken → (ThreeDevices S BadLines Nowhere → Holdings) → (old new : ReplayReading S) → Running → List Move → Type 0
ReadsAnswer r held old new state moves = PlaysQuestion r (held old.devices) (held new.devices) (question_at rules state moves old.stream) new.stream
