use Rattle.pml_eval.proofs.ClipLemmas.{IsClip-clipped, clipped-only}
use Rattle.pml_eval.proofs.clip.one_clip.Goals as goal

pub returns-clause-there : goal.returns-clause-there
returns-clause-there c = IsClip-clipped

pub returns-clause-only : goal.returns-clause-only
returns-clause-only c = clipped-only
