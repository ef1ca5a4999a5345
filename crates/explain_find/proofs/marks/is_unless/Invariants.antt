use Rattle.std.proofs.Common.{◌≡◌, drop}
use Rattle.std.specs.List.{list_any}
use Rattle.explain_find.specs.Marks.{is_unless}
use Rattle.explain_find.proofs.marks.is_unless.Given as goal

abbrev pub invariant-loop-token : goal.invariant-loop-token
invariant-loop-token l = list_any (is_unless l.place) (drop l.token-index l.tokens) ≡ list_any (is_unless l.place) l.tokens
