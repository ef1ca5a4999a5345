use Rattle.pml_sim.proofs.Values.{frames_same}
use Rattle.pml_sim.proofs.laws.nothing_has_changed_at_first.Goals as goal

pub returns : goal.returns
returns c = λ s lossy. frames_same 0 s.frames
