-- what was yielded is escaped
use Rattle.std.proofs.Common.{◌≡◌, ◌++◌, string_bytes}
use Rattle.std.specs.List.{flat_map}
use Rattle.view_foreign.specs.Escaped.{escaped_character}
use Rattle.view_foreign.proofs.escaped.push_all.Given as goal

abbrev pub invariant-loop-c : goal.invariant-loop-c
invariant-loop-c l = string_bytes l.out ≡ string_bytes l.fn.out ++ flat_map escaped_character l.yielded
