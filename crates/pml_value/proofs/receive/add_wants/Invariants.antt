use Rattle.std.proofs.Common.{◌≡◌, ◌++◌, Ok, map, drop, length}
use Rattle.promela_process.specs.Store.{size_at}
use Rattle.pml_eval.specs.There.{AreThere}
use Rattle.promela_process.specs.Expressions.{want, wants_of, ◌>>=◌}
use Rattle.pml_value.specs.Seen.{seen}
use Rattle.pml_value.proofs.receive.add_wants.Given as goal

-- what is asked so far and by the rest is what all ask, one field for each argument so far, and its places are there
abbrev pub invariant-loop-one : goal.invariant-loop-one
invariant-loop-one l = record {
  count : length l.sought ≡ l.one-index;
  there : AreThere (size_at l.view.store.now.frames) l.sought;
  same : (wants_of (map want (drop l.one-index l.wants)) (seen l.view) >>= λ more. Ok (l.sought ++ more)) ≡ wants_of (map want l.wants) (seen l.view);
}
