use Rattle.std.proofs.Common.{length, arith}
use Rattle.explain.specs.Request.{request_of}
use Rattle.source_lines.specs.Seen.{sight_of}
use Rattle.explain.proofs.Telling.{some_lines, in_included}
use Rattle.explain.proofs.told.told_at.Goals as goal

pub returns-in-Some : goal.returns-in-Some
returns-in-Some c =
    let line = c.in-Some.included.line in
    in_included (request_of c.args.asked) c.args.place c.args.refusal c.args.words.now c.in-Some.included.file.now line.bytes.now line.number line.start (sight_of c.seen_in-seen.result) c.told_of.result
    (some_lines (length c.args.asked.lines.now) c.included_at.result c.in-Some.included c.included_at.ensures c.in-Some.is) (grind arith) c.told_of.ensures
