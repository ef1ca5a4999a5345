use Rattle.std.proofs.Common.{◌≡◌, ℕ, true, false, length, get_or, sum_by}
use Rattle.pml_control.specs.Ends.{Leads, Circling}
use Rattle.explain_control.proofs.Rounds.{unpassed}
use Rattle.explain_control.proofs.circle.post_in_circle.Given as goal

abbrev pub invariant-loop-there : goal.invariant-loop-there
invariant-loop-there l = record {
  long : length l.passed.items ≡ length l.next;
  goes : Circling l.next l.here;
  back : (k : ℕ) → get_or l.passed.items k false ≡ true → (n : ℕ) × Leads l.next n k l.here;
}

abbrev pub decreases-loop-there : goal.decreases-loop-there
decreases-loop-there l = sum_by unpassed l.passed.items
