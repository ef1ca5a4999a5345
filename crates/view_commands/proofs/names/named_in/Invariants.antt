use Rattle.std.proofs.Common.{◌≡◌, drop}
use Rattle.std.specs.List.{find}
use Rattle.view_commands.specs.Named.{is_name}
use Rattle.view_commands.proofs.names.named_in.Given as goal

abbrev pub invariant-loop-name : goal.invariant-loop-name
invariant-loop-name l = find (is_name l.word) (drop l.name-index l.names) ≡ find (is_name l.word) l.names
