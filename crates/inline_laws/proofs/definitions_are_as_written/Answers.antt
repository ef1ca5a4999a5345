use Rattle.inline_laws.proofs.Defining.{are_as_written}
use Rattle.inline_laws.proofs.definitions_are_as_written.Goals as goal

pub returns : goal.returns
returns c = are_as_written
