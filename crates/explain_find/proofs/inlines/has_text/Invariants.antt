use Rattle.std.proofs.Common.{◌≡◌, drop}
use Rattle.std.specs.List.{list_any}
use Rattle.std.specs.Str.{bytes_eq}
use Rattle.explain_find.proofs.inlines.has_text.Given as goal

abbrev pub invariant-loop-token : goal.invariant-loop-token
invariant-loop-token l = list_any (λ w. bytes_eq w.text l.name) (drop l.token-index l.tokens) ≡ list_any (λ w. bytes_eq w.text l.name) l.tokens
