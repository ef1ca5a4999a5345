use Rattle.text_parts.proofs.Reading.{calls_are_found}
use Rattle.text_parts.proofs.laws.calls_are_found.Goals as goal

pub returns : goal.returns
returns c = calls_are_found
