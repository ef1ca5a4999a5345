use Rattle.std.proofs.Common.{◌∙◌, ap, sym, arith, length}
use Rattle.std.specs.Prelude.{not}
use Rattle.view_json.proofs.Alike.{tells_pair, some_bytes}
use Rattle.view_json.proofs.texts.parts_of_pair.Goals as goal

pub returns-then-is_empty : goal.returns-then-is_empty
returns-then-is_empty c = λ late some. absurd (omega (arith, some, ap length c.no_parts.ensures))

pub returns : goal.returns
returns c = λ late some.
    tells_pair c.args.live.now.state c.args.sender c.args.receiver late _ _ c.text_at.ensures c.text_at-reply.ensures some
    (some_bytes c.text_at-reply.result.now (ap not (sym c.is_empty.ensures ∙ c.if-is_empty.false)))
