use Rattle.inline_laws.proofs.Calling.{closers_are, are_closers}
use Rattle.inline_laws.proofs.closers_are_derived.Goals as goal

pub returns : goal.returns
returns c = record { forth = closers_are; back = are_closers }
