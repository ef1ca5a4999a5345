use Rattle.std.proofs.Common.{◌≡◌, drop}
use Rattle.pml_value.specs.Seen.{seen}
use Rattle.promela_run.specs.Statements.{values}
use Rattle.run_search.specs.Fields.{evaluated}
use Rattle.run_search.proofs.executable.first_fault_of.Given as goal

-- the first fault of the rest is that of all
abbrev pub invariant-loop-one : goal.invariant-loop-one
invariant-loop-one l = evaluated (values (drop l.one-index l.list) (seen l.view)) ≡ evaluated (values l.list (seen l.view))
