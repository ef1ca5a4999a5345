use Rattle.std.proofs.Common.{◌≡◌, ◌++◌, [], drop}
use Rattle.text_parts.specs.Folds.{folds}
use Rattle.text_parts.proofs.folds.folds_of.Given as goal

abbrev pub invariant-loop-token : goal.invariant-loop-token
invariant-loop-token l = l.out.items ++ folds l.starts.items (drop l.token-index l.tokens) ≡ folds [] l.tokens
