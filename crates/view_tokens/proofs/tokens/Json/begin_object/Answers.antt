use Rattle.json.specs.Token.{begin_object}
use Rattle.view_tokens.proofs.Growing.{is_begin_object}
use Rattle.view_tokens.proofs.tokens.Json.begin_object.Goals as goal

pub put-requires : goal.put-requires
put-requires c = (begin_object, is_begin_object)

pub returns : goal.returns
returns c = c.put.ensures begin_object is_begin_object
