use Rattle.std.proofs.Common.{◌≡◌, ℕ, suc, ◌<◌}
use Rattle.pml_control.specs.Ends.{Leads, Circling}
use Rattle.explain_control.specs.Blamed.{labels_along}
use Rattle.explain_control.proofs.circle.labels_of.Given as goal

abbrev pub invariant-loop : goal.invariant-loop
invariant-loop l = record {
  goes : Circling l.next l.here;
  leads : Leads l.next l.index l.post l.here;
  labels : l.labels.items ≡ labels_along l.sites l.next l.index l.post;
  first : (n : ℕ) → n < l.index → Leads l.next (suc n) l.post l.post → ⊥;
}
