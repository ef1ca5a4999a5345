use Rattle.pml_syntax.proofs.action.+run_within.Given as goal

abbrev pub decreases-run_within : goal.decreases-run_within
decreases-run_within l = l.nested
