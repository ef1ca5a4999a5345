use Rattle.std.proofs.Common.{◌∙◌, sym}
use Rattle.json.specs.Token.{key}
use Rattle.view_tokens.specs.Printed.{string_of}
use Rattle.view_tokens.proofs.Growing.{is_bare_text_key}
use Rattle.view_tokens.proofs.tokens.Json.text_key.Goals as goal

pub put_quoted-requires-clause-token : goal.put_quoted-requires-clause-token
put_quoted-requires-clause-token c = (key (string_of c.args.bytes.now), is_bare_text_key c.args.bytes.now (sym c.are_bare.ensures ∙ c.if-are_bare.true))

pub returns-then-are_bare : goal.returns-then-are_bare
returns-then-are_bare c = c.put_quoted.ensures (key (string_of c.args.bytes.now)) (is_bare_text_key c.args.bytes.now (sym c.are_bare.ensures ∙ c.if-are_bare.true))
