use Rattle.json.specs.Token.{end_array}
use Rattle.view_tokens.proofs.Growing.{is_end_array}
use Rattle.view_tokens.proofs.tokens.Json.end_array.Goals as goal

pub put-requires : goal.put-requires
put-requires c = (end_array, is_end_array)

pub returns : goal.returns
returns c = c.put.ensures end_array is_end_array
