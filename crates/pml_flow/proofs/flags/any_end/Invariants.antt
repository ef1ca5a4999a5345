use Rattle.std.proofs.Common.{◌≡◌, drop}
use Rattle.promela_process.specs.Offers.{any_end}
use Rattle.pml_flow.proofs.flags.any_end.Given as goal

abbrev pub invariant-loop-label : goal.invariant-loop-label
invariant-loop-label l = any_end (drop l.label-index l.labels) ≡ any_end l.labels
