use Rattle.check_names.specs.Places.{IsKept}
use Rattle.model_names.proofs.inlines.sites_of.Given as goal

abbrev pub invariant-loop-i : goal.invariant-loop-i
invariant-loop-i l = IsKept l.sites.numbers l.sites.places
