use Rattle.std.proofs.Common.{◌≡◌, ◌+◌, ◌++◌, drop, sum}
use Rattle.pml_store.specs.Laid.{extents_of}
use Rattle.pml_store.proofs.store.extents_from.Given as goal

-- the extents so far and those of the rest
abbrev pub invariant-loop-size : goal.invariant-loop-size
invariant-loop-size l = record {
  same : l.extents ++ extents_of l.at (drop l.size-index l.sizes) ≡ extents_of l.base l.sizes;
  total : l.at + sum (drop l.size-index l.sizes) ≡ l.base + sum l.sizes;
}
