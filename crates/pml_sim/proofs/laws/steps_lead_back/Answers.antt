use Rattle.profile.specs.declared.TheConstants.{MOST_DSTEP_STATEMENTS}
use Rattle.promela_run.specs.Steps as outcome
use Rattle.pml_sim.proofs.Leading.{leads_back}
use Rattle.pml_sim.proofs.laws.steps_lead_back.Goals as goal

pub returns : goal.returns
returns c s t m printed = leads_back s.state.frames (outcome.after_move MOST_DSTEP_STATEMENTS s.state m) t printed
