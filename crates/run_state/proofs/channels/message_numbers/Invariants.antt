use Rattle.std.proofs.Common.{◌≡◌, ◌+◌, ◌≤◌, drop}
use Rattle.run_state.specs.Footprint.{message_numbers, all_room}
use Rattle.run_state.proofs.channels.message_numbers.Given as goal

-- those that are counted by now, and those of the other channels, are all
abbrev pub invariant-loop-live : goal.invariant-loop-live
invariant-loop-live l = record {
  same : l.count + message_numbers (drop l.live-index l.channels) ≡ message_numbers l.channels;
  few : l.count + all_room (drop l.live-index l.channels) ≤ all_room l.channels;
}
