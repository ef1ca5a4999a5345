use Rattle.std.proofs.Common.{◌≡◌, drop}
use Rattle.std.specs.List.{position_from}
use Rattle.promela_process.specs.Expressions.{matched}
use Rattle.pml_channel.proofs.channel.Channel.find.Given as goal

abbrev pub invariant-loop-place : goal.invariant-loop-place
invariant-loop-place l = position_from (matched l.sought) l.place (drop l.place l.self.messages) ≡ position_from (matched l.sought) 0 l.self.messages
