use Rattle.std.proofs.Common.{◌≡◌, ◌++◌, drop}
use Rattle.model_verdicts.specs.Replaced.{replaced}
use Rattle.model_verdicts.proofs.replaced.replaced.Given as goal

abbrev pub invariant-loop-place : goal.invariant-loop-place
invariant-loop-place l =
    l.out.items ++ replaced l.text l.length l.name l.behind (drop l.place-index l.places) ≡ replaced l.text l.length l.name 0 l.places
