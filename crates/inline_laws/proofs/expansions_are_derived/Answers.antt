use Rattle.pml_inline.proofs.Expanding.{are_left, are_expansions}
use Rattle.inline_laws.proofs.expansions_are_derived.Goals as goal

pub returns : goal.returns
returns c = record { forth = are_left; back = are_expansions }
