use Rattle.pml_sim.proofs.Stepping.{first_of, no_start_fault}
use Rattle.pml_sim.proofs.world.World.start.Goals as goal

pub unreachable-requires : goal.unreachable-requires
unreachable-requires c = no_start_fault c.program-program.result.now _ _ c.program-program.ensures.start c.in-Err-Fault.field-0-is c.in-Err-Fault.ensures.value

pub returns-in-Ok : goal.returns-in-Ok
returns-in-Ok c = first_of c.args.checked.now c.program-program.result.now c.args.lossy c.in-Ok.started c.first.result c.program-program.ensures.model c.in-Ok.ensures.value (rw c.in_ok-played.ensures at c.first.ensures)
