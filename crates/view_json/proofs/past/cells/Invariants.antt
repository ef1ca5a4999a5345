-- where memory was refused it stays so
use Rattle.view_tokens.specs.Printed.{Stays}
use Rattle.view_json.proofs.past.cells.Given as goal

abbrev pub invariant-loop-read : goal.invariant-loop-read
invariant-loop-read l = Stays l.fn.json l.json
