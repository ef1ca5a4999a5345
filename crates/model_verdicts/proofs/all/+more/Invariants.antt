use Rattle.model_verdicts.proofs.all.+more.Given as goal

abbrev pub decreases-more : goal.decreases-more
decreases-more l = l.count
