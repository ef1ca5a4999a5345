use Rattle.std.proofs.Common.{◌∙◌, decimal}
use Rattle.json.specs.Token.{number}
use Rattle.json.proofs.Printed.Decimals.{IsNumber-decimal}
use Rattle.view_tokens.proofs.Growing.{is_number}
use Rattle.view_tokens.proofs.tokens.Json.number.Goals as goal

pub put-requires : goal.put-requires
put-requires c = (
  number (decimal c.args.n),
  is_number (decimal c.args.n) _ (c.as_bytes.ensures.value ∙ c.format.ensures.text) (IsNumber-decimal c.args.n c.ranges.n.fits) c.as_bytes.ensures.utf8,
)

pub returns : goal.returns
returns c =
    c.put.ensures (number (decimal c.args.n))
    (is_number (decimal c.args.n) _ (c.as_bytes.ensures.value ∙ c.format.ensures.text) (IsNumber-decimal c.args.n c.ranges.n.fits) c.as_bytes.ensures.utf8)
