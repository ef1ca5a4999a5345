-- How much a state keeps.
use Rattle.std.specs.Prelude.{ℕ, ◌+◌, ◌*◌, length, List, [], ◌∷◌}
use Rattle.pml_store.specs.Writing.{joined}
use Rattle.pml_channel.specs.Laid.{numbers_in}
use Rattle.promela_run.specs.declared.live_channel.LiveChannel.{LiveChannel}
use Rattle.run_start.specs.Bound.{room}
use Rattle.promela_run.specs.State.{State}

-- how many numbers the messages of channels have
abbrev pub message_numbers : List LiveChannel → ℕ
message_numbers [] = 0
message_numbers (o ∷ os) = numbers_in o.channel.messages + message_numbers os

-- the numbers in variables and messages, two for each process and two for each channel
abbrev pub held : State → ℕ
held s = length (joined s.frames) + message_numbers s.channels + 2 * length s.stands + 2 * length s.channels

-- how many numbers their messages may have
abbrev pub all_room : List LiveChannel → ℕ
all_room [] = 0
all_room (o ∷ os) = room o + all_room os
