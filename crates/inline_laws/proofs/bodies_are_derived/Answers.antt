use Rattle.inline_laws.proofs.Giving.{bodies_are, are_bodies}
use Rattle.inline_laws.proofs.bodies_are_derived.Goals as goal

pub returns : goal.returns
returns c = record { forth = bodies_are; back = are_bodies }
