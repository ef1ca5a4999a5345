use Rattle.inline_laws.proofs.Calling.{arguments_are, are_arguments}
use Rattle.inline_laws.proofs.arguments_are_derived.Goals as goal

pub returns : goal.returns
returns c = record { forth = arguments_are; back = are_arguments }
