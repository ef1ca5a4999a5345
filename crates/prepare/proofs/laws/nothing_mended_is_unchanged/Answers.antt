use Rattle.prepare.proofs.Changing.{unchanged}
use Rattle.prepare.proofs.laws.nothing_mended_is_unchanged.Goals as goal

pub returns : goal.returns
returns c text h = unchanged text h.bare h.markers h.characters h.stretches h.changes
