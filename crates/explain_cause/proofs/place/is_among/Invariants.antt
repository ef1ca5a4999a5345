use Rattle.std.proofs.Common.{◌≡◌, drop}
use Rattle.std.specs.List.{list_any}
use Rattle.pml_token.specs.Word.{same_kind}
use Rattle.explain_cause.proofs.place.is_among.Given as goal

abbrev pub invariant-loop-one : goal.invariant-loop-one
invariant-loop-one l = list_any (same_kind l.kind) (drop l.one-index l.kinds) ≡ list_any (same_kind l.kind) l.kinds
