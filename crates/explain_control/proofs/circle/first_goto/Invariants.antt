use Rattle.explain_control.specs.Blamed.{Returns}
use Rattle.explain_control.proofs.circle.first_goto.Given as goal

abbrev pub invariant-loop : goal.invariant-loop
invariant-loop l = record {
  here : Returns l.next l.here;
  most : Returns l.next l.most;
}
