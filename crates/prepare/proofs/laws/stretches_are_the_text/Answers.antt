use Rattle.std.proofs.Common.{[], length, true}
use Rattle.prepare.specs.Contexts.{start}
use Rattle.prepare.proofs.Plain.{sources_are}
use Rattle.prepare.proofs.laws.stretches_are_the_text.Goals as goal

pub returns : goal.returns
returns c = λ text. sources_are (length text) true start [] text
