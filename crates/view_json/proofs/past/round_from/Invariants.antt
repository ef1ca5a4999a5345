-- where memory was refused it stays so
use Rattle.view_tokens.specs.Printed.{Stays}
use Rattle.view_json.proofs.past.round_from.Given as goal

abbrev pub invariant-loop : goal.invariant-loop
invariant-loop l = Stays l.fn.json l.json
