use Rattle.std.proofs.Common.{◌∙◌, sym}
use Rattle.view_json.proofs.Alike.{same_text}
use Rattle.view_json.proofs.texts.settle.Goals as goal

pub returns-then-are_same-clause-written : goal.returns-then-are_same-clause-written
returns-then-are_same-clause-written c =
    same_text c.args.live.now.state c.args.m c.args.last.now c.args.parts c.requires.reads (sym c.are_same.ensures ∙ c.if-are_same.true) c.requires.tells
