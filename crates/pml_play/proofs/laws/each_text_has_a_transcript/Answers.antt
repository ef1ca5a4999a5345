use Rattle.pml_play.proofs.Each.{has_transcript}
use Rattle.pml_play.proofs.Outcomes.{same_events}
use Rattle.pml_play.proofs.laws.each_text_has_a_transcript.Goals as goal

pub returns-clause-some : goal.returns-clause-some
returns-clause-some c = has_transcript

pub returns-clause-one : goal.returns-clause-one
returns-clause-one c text options a b = same_events
