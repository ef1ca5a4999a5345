use Rattle.pml_inline.proofs.Deriving.{are_answered}
use Rattle.inline_laws.proofs.nothing_else_is_derived.Goals as goal

pub returns : goal.returns
returns c known room active ts us n comes = are_answered known room active ts us n comes
