use Rattle.std.proofs.Common.{◌≡◌, drop}
use Rattle.trail_text.specs.Shown.{jumps}
use Rattle.std.specs.List.{list_any}
use Rattle.std.specs.Str.{bytes_eq}
use Rattle.trail_text.proofs.quiet.is_jump.Given as goal

abbrev pub invariant-loop-jump : goal.invariant-loop-jump
invariant-loop-jump l = list_any (bytes_eq l.text) (drop l.jump-index jumps) ≡ list_any (bytes_eq l.text) jumps
