use Rattle.std.proofs.Common.{◌≡◌, drop}
use Rattle.std.specs.List.{list_all}
use Rattle.pml_directives.specs.Conditions.{is_of_number}
use Rattle.pml_directives.proofs.condition.digits_worth.Given as goal

abbrev pub invariant-loop-b : goal.invariant-loop-b
invariant-loop-b l = list_all is_of_number (drop l.b-index l.text) ≡ list_all is_of_number l.text
