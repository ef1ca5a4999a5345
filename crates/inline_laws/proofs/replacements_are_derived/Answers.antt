use Rattle.pml_inline.proofs.Deriving.{are_derived}
use Rattle.inline_laws.proofs.replacements_are_derived.Goals as goal

pub returns : goal.returns
returns c known room active ts g h = are_derived known room active ts g h
