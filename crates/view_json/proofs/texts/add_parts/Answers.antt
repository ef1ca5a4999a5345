use Rattle.std.proofs.Common.{◌∙◌, sym, subst, arith}
use Rattle.view_json.specs.declared.texts.Line.{Line}
use Rattle.view_json.specs.Texts.{Reads}
use Rattle.view_json.proofs.Alike.{same_text}
use Rattle.view_json.proofs.texts.add_parts.Goals as goal

pub returns-then-are_same-clause-written : goal.returns-then-are_same-clause-written
returns-then-are_same-clause-written c =
    let s = c.args.live.now.state in
    let line = c.index-line.result.now in
    let within = c.if-at-len.true in
    let len = c.len.ensures in
    let reads : Reads s line = subst (λ (x : Line). Reads s x) (sym c.index-line.ensures) (c.requires.read c.args.last.now.at line (omega (arith, within, len))) in
    c.join.ensures.known _ (same_text s c.args.m line c.args.parts reads (sym c.are_same.ensures ∙ c.if-are_same.true) c.requires.tells)

pub add_at-requires-clause-read : goal.add_at-requires-clause-read
add_at-requires-clause-read c = c.place_for-at.ensures c.args.live.now.state c.requires.read
