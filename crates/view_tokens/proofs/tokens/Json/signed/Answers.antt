use Rattle.std.proofs.Common.{rules}
use Rattle.std.specs.Fmt.{signed_decimal}
use Rattle.json.specs.Token.{number}
use Rattle.json.proofs.Printed.Decimals.{IsNumber-signed_decimal}
use Rattle.view_tokens.proofs.Growing.{is_number}
use Rattle.view_tokens.proofs.tokens.Json.signed.Goals as goal

pub put-requires : goal.put-requires
put-requires c = (number (signed_decimal c.args.n), is_number (signed_decimal c.args.n) c.as_bytes.result.now (search rules) (IsNumber-signed_decimal c.args.n (search rules)) c.as_bytes.ensures.utf8)

pub returns : goal.returns
returns c = c.put.ensures (number (signed_decimal c.args.n)) (is_number (signed_decimal c.args.n) c.as_bytes.result.now (search rules) (IsNumber-signed_decimal c.args.n (search rules)) c.as_bytes.ensures.utf8)
