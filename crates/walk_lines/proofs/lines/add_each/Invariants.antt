use Rattle.std.proofs.Common.{◌≡◌}
use Rattle.promela_run.specs.Moves.{moves}
use Rattle.view_tokens.specs.Printed.{Stays}
use Rattle.walk_lines.proofs.lines.add_each.Given as goal

abbrev pub invariant-loop-process : goal.invariant-loop-process
invariant-loop-process l = l.moves ≡ moves l.live.state → Stays l.fn.json l.json
