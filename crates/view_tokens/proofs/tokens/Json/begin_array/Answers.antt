use Rattle.json.specs.Token.{begin_array}
use Rattle.view_tokens.proofs.Growing.{is_begin_array}
use Rattle.view_tokens.proofs.tokens.Json.begin_array.Goals as goal

pub put-requires : goal.put-requires
put-requires c = (begin_array, is_begin_array)

pub returns : goal.returns
returns c = c.put.ensures begin_array is_begin_array
