-- where memory was refused it stays so
use Rattle.view_tokens.specs.Printed.{Stays}
use Rattle.view_json.proofs.past.add_round.Given as goal

abbrev pub invariant-loop-process : goal.invariant-loop-process
invariant-loop-process l = Stays l.fn.json l.json
