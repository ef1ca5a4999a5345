-- what was yielded is shown
use Rattle.std.proofs.Common.{◌≡◌, ◌++◌, string_bytes}
use Rattle.std.specs.List.{flat_map}
use Rattle.view_foreign.specs.Shown.{shown_sign}
use Rattle.view_foreign.proofs.shown.show_signs.Given as goal

abbrev pub invariant-loop-c : goal.invariant-loop-c
invariant-loop-c l = string_bytes l.out ≡ string_bytes l.fn.out ++ flat_map shown_sign l.yielded
