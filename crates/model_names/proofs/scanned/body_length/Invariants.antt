use Rattle.std.proofs.Common.{◌≡◌, ◌≤◌, ◌+◌, drop}
use Rattle.model_names.specs.Inlines.{body_length}
use Rattle.model_names.proofs.scanned.body_length.Given as goal

abbrev pub invariant-loop-i : goal.invariant-loop-i
invariant-loop-i l = record {
  few : l.depth ≤ l.i;
  rest : l.i + body_length l.depth (drop l.i l.tokens) ≡ body_length 0 l.tokens;
}
