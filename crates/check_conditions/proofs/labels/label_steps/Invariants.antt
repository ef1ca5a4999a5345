use Rattle.std.proofs.Common.{◌≡◌, take, reverse}
use Rattle.check_conditions.specs.Open.{rounds, AreSteps}
use Rattle.check_conditions.proofs.labels.label_steps.Given as goal

abbrev pub invariant-loop-i : goal.invariant-loop-i
invariant-loop-i l = record {
  here : l.rounds ≡ rounds (reverse (take l.i l.marks));
  labels : AreSteps (reverse (take l.i l.marks)) l.steps;
}
