use Rattle.std.proofs.Common.{◌≡◌, take}
use Rattle.std.specs.List.{flat_map}
use Rattle.explain_control.specs.Sites.{sites_of}
use Rattle.explain_control.specs.Blamed.{breaks_in}
use Rattle.explain_control.proofs.proctypes.breaks.Given as goal

abbrev pub invariant-loop-proctype : goal.invariant-loop-proctype
invariant-loop-proctype l = l.breaks.items ≡ flat_map (λ p. breaks_in (sites_of p.body)) (take l.proctype-index l.proctypes)
