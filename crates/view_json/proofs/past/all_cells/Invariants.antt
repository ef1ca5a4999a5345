-- where memory was refused it stays so
use Rattle.view_tokens.specs.Printed.{Stays}
use Rattle.view_json.proofs.past.all_cells.Given as goal

abbrev pub invariant-loop-wait : goal.invariant-loop-wait
invariant-loop-wait l = Stays l.fn.json l.json
