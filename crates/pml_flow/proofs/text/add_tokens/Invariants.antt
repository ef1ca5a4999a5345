use Rattle.std.proofs.Common.{◌≡◌, ◌++◌, take}
use Rattle.std.specs.Prelude.{codes}
use Rattle.std.specs.List.{flat_map}
use Rattle.pml_token.specs.Word.{Word}
use Rattle.pml_flow.proofs.text.add_tokens.Given as goal

abbrev pub invariant-loop-token : goal.invariant-loop-token
invariant-loop-token l = l.text.items ≡ l.initial.text.items ++ flat_map (λ (v : Word). codes " " ++ v.text) (take l.token-index l.rest)
