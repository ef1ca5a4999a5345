use Rattle.std.proofs.Common.{◌∙◌, sym, subst, ℕ, true, List, ◌∷◌, ◌++◌, []}
use Rattle.json.specs.Token.{string}
use Rattle.view_tokens.specs.Printing.{IsToken}
use Rattle.view_tokens.proofs.Growing.{is_bare_string}
use Rattle.view_tokens.proofs.tokens.Json.string.Goals as goal

pub put_quoted-requires-clause-token : goal.put_quoted-requires-clause-token
put_quoted-requires-clause-token c = (string c.as_bytes-bytes.result.now, is_bare_string c.as_bytes-bytes.result.now (sym c.are_bare.ensures ∙ c.if-are_bare.true))

pub returns-then-are_bare : goal.returns-then-are_bare
returns-then-are_bare c =
    let bytes = c.as_bytes-bytes.result.now in
    c.put_quoted.ensures (string c.args.text.now)
    (subst (λ (l : List ℕ). IsToken (string l) (34 ∷ (bytes ++ 34 ∷ [])) true true) c.as_bytes-bytes.ensures.value (is_bare_string bytes (sym c.are_bare.ensures ∙ c.if-are_bare.true)))
