use Rattle.std.proofs.Common.{◌∙◌, sym, subst, ℕ, true, false, List, ◌∷◌, ◌++◌, []}
use Rattle.json.specs.Token.{key}
use Rattle.view_tokens.specs.Printing.{IsToken}
use Rattle.view_tokens.proofs.Growing.{is_bare_key}
use Rattle.view_tokens.proofs.tokens.Json.key.Goals as goal

pub put_quoted-requires-clause-token : goal.put_quoted-requires-clause-token
put_quoted-requires-clause-token c = (key c.as_bytes-bytes.result.now, is_bare_key c.as_bytes-bytes.result.now (sym c.are_bare.ensures ∙ c.if-are_bare.true))

pub returns-then-are_bare : goal.returns-then-are_bare
returns-then-are_bare c =
    let bytes = c.as_bytes-bytes.result.now in
    c.put_quoted.ensures (key c.args.name.now)
    (subst (λ (l : List ℕ). IsToken (key l) (34 ∷ (bytes ++ 34 ∷ 58 ∷ [])) true false) c.as_bytes-bytes.ensures.value (is_bare_key bytes (sym c.are_bare.ensures ∙ c.if-are_bare.true)))
