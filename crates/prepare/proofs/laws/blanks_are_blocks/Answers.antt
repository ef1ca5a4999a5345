use Rattle.prepare.proofs.Blanking.{blanks_are_blocks}
use Rattle.prepare.proofs.laws.blanks_are_blocks.Goals as goal

pub returns : goal.returns
returns c = blanks_are_blocks
