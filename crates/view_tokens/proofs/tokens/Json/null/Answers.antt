use Rattle.json.specs.Token.{null}
use Rattle.view_tokens.proofs.Growing.{is_null}
use Rattle.view_tokens.proofs.tokens.Json.null.Goals as goal

pub put-requires : goal.put-requires
put-requires c = (null, is_null)

pub returns : goal.returns
returns c = c.put.ensures null is_null
