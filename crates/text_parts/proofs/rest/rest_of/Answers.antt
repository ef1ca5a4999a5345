use Rattle.std.proofs.Common.{refl}
use Rattle.text_parts.specs.Rest.{uncut}
use Rattle.text_parts.proofs.Rests.{without_by}
use Rattle.text_parts.proofs.rest.rest_of.Goals as goal

pub returns-in-Err : goal.returns-in-Err
returns-in-Err c = uncut c.in-Err.field-0 c.in-Err.ensures.err refl

pub returns : goal.returns
returns c =
    without_by c.args.text.now c.args.offset c.in-Ok.tokens.items c.deref.result.now c.body_at.result c.rest_by.result c.in-Ok.ensures.ok c.deref.ensures.value
    c.body_at.ensures c.rest_by.ensures
