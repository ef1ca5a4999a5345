use Rattle.std.proofs.Common.{◌∙◌, subst, sym, length, chars}
use Rattle.std.proofs.lemmas.Iterator.{YieldsList-from_chars}
use Rattle.std.proofs.lemmas.Iterator.Consumers.{count_from_yields_List}
use Rattle.std.specs.Str.{IsUtf8}
use Rattle.source_lines.proofs.Texts.{of_text, of_bytes}
use Rattle.source_lines.proofs.position.width.Goals as goal

pub returns-in-Ok-clause-is : goal.returns-in-Ok-clause-is
returns-in-Ok-clause-is c =
    let same = c.in-Ok.ensures.cases.0 in
    let is = c.in-Ok.ensures.cases.1 in
    count_from_yields_List c.chars.result c.count.result c.count.ensures.ran (YieldsList-from_chars c.in-Ok.text.now (subst IsUtf8 (sym same) is) cc)
    ∙ of_text length (length c.args.bytes.now) c.args.bytes.now c.in-Ok.text.now same is

pub returns-in-Err-clause-is : goal.returns-in-Err-clause-is
returns-in-Err-clause-is c = of_bytes (length (chars c.args.bytes.now)) (length c.args.bytes.now) c.args.bytes.now c.in-Err.ensures.cases.0
