use Rattle.view_text.specs.Written.{Stays}
use Rattle.view_trail.proofs.difference.offers_else.Given as goal

abbrev pub invariant-loop-level : goal.invariant-loop-level
invariant-loop-level l = Stays l.fn.out l.out

abbrev pub invariant-loop-place : goal.invariant-loop-place
invariant-loop-place l = Stays l.fn.out l.out
