-- where memory was refused it stays so
use Rattle.view_tokens.specs.Printed.{Stays}
use Rattle.view_json.proofs.past.round.Given as goal

abbrev pub invariant-loop-first : goal.invariant-loop-first
invariant-loop-first l = Stays l.fn.json l.json
