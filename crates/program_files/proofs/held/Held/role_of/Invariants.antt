use Rattle.std.proofs.Common.{◌≡◌, length}
use Rattle.program_files.specs.Held.{held_as}
use Rattle.program_files.proofs.held.Held.role_of.Given as goal

abbrev pub invariant-loop-rest : goal.invariant-loop-rest
invariant-loop-rest l = held_as l.file l.rest ≡ held_as l.file l.self.entries.items

abbrev pub decreases-loop-rest : goal.decreases-loop-rest
decreases-loop-rest l = length l.rest
