use Rattle.promela_run.specs.Steps.{sorts}
use Rattle.run_values.proofs.Listing.{lines_of_changes}
use Rattle.pml_sim.proofs.laws.lines_are_of_changes.Goals as goal

pub returns : goal.returns
returns c = λ w globals locals. lines_of_changes w.state.program (sorts w.state) globals locals w.past w.state.frames
