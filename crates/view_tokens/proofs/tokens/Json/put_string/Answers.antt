use Rattle.std.proofs.Common.{◌∙◌, sym, subst, IsUtf8}
use Rattle.json.specs.Token.{string}
use Rattle.view_tokens.proofs.Growing.{is_escaped}
use Rattle.view_tokens.proofs.tokens.Json.put_string.Goals as goal

pub put-requires : goal.put-requires
put-requires c = (
  string c.args.text.now,
  is_escaped c.args.text.now c.as_slice.result.now (c.as_slice.ensures.value ∙ c.in-Ok.ensures.value) (subst IsUtf8 (sym c.as_slice.ensures.value) c.in-Ok.ensures.utf8),
)

pub returns-in-Ok : goal.returns-in-Ok
returns-in-Ok c =
    c.put.ensures (string c.args.text.now)
    (is_escaped c.args.text.now c.as_slice.result.now (c.as_slice.ensures.value ∙ c.in-Ok.ensures.value) (subst IsUtf8 (sym c.as_slice.ensures.value) c.in-Ok.ensures.utf8))
