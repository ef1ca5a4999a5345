use Rattle.view_text.specs.Written.{Stays}
use Rattle.view_commands.proofs.help.add_help.Given as goal

abbrev pub invariant-loop-line : goal.invariant-loop-line
invariant-loop-line l = Stays l.fn.out l.out
