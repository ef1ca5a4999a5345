use Rattle.std.proofs.Common.{◌≡◌, ◌++◌, drop, true, IfSome}
use Rattle.std.specs.List.{filter}
use Rattle.std.specs.Option.{option_to_list}
use Rattle.view_commands.specs.Names.{long_name, begins}
use Rattle.view_commands.specs.Named.{is_begun, only}
use Rattle.view_commands.proofs.names.begun_in.Given as goal

abbrev pub invariant-loop-name : goal.invariant-loop-name
invariant-loop-name l = record {
  begins : IfSome l.found (λ n. begins (long_name n) l.word ≡ true);
  one : only (option_to_list l.found ++ filter (is_begun l.word) (drop l.name-index l.names)) ≡ only (filter (is_begun l.word) l.names);
}
