use Rattle.pml_play.proofs.Outcomes.{line_of}
use Rattle.pml_play.proofs.laws.refusal_line.Goals as goal

pub returns : goal.returns
returns c text refusal line = line_of
