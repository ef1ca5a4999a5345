use Rattle.inline_laws.proofs.Calling.{calls_are, are_calls}
use Rattle.inline_laws.proofs.calls_are_derived.Goals as goal

pub returns : goal.returns
returns c = record { forth = calls_are; back = are_calls }
