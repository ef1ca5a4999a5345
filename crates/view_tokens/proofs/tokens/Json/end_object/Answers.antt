use Rattle.json.specs.Token.{end_object}
use Rattle.view_tokens.proofs.Growing.{is_end_object}
use Rattle.view_tokens.proofs.tokens.Json.end_object.Goals as goal

pub put-requires : goal.put-requires
put-requires c = (end_object, is_end_object)

pub returns : goal.returns
returns c = c.put.ensures end_object is_end_object
