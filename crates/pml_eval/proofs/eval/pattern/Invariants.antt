use Rattle.std.proofs.Common.{◌≡◌, ◌++◌, Ok, map, drop, length}
use Rattle.pml_eval.specs.There.{AreThere}
use Rattle.promela_process.specs.Expressions.{want, wants_of, ◌>>=◌}
use Rattle.pml_eval.proofs.eval.pattern.Given as goal

-- what is asked so far and by the rest is what all ask, one field for each argument so far, and its places are there
abbrev pub invariant-loop-argument : goal.invariant-loop-argument
invariant-loop-argument g l =
    let r = g.G.Ground.reading l.ground in
    record {
      count : length l.pattern ≡ l.argument-index;
      there : AreThere r.cells l.pattern;
      same : (wants_of (map want (drop l.argument-index l.arguments)) r >>= λ more. Ok (l.pattern ++ more)) ≡ wants_of (map want l.arguments) r;
    }
