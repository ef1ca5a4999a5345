use Rattle.model_verdicts.proofs.offered.+offered.Given as goal

abbrev pub decreases-offered : goal.decreases-offered
decreases-offered l = l.count
