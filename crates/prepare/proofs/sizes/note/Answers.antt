use Rattle.std.proofs.Common.{sym, ap, ◌∙◌}
use Rattle.std.proofs.lemmas.Map.Text.{btree_map_updates_str}
use Rattle.prepare.specs.Sizes.{declares}
use Rattle.prepare.specs.Found.{size_in}
use Rattle.prepare.proofs.Noting.{noted_is, noted_one}
use Rattle.prepare.proofs.sizes.note.Goals as goal

pub returns-in_ok-insert : goal.returns-in_ok-insert
returns-in_ok-insert c = λ n.
    let r = c.args.reading in
    let old = c.args.numbers.now in
    let size = c.size_behind.result in
    let name = c.token-name.result.now in
    let declared = ap (declares r) (sym c.kind.ensures) ∙ sym c.declares.ensures ∙ c.if-declares.true in
    btree_map_updates_str _ old c.insert.new.self _ c.in_ok-insert.ensures.updates n
    ∙ noted_is old name _ size _ n (c.copied-known.ensures ∙ c.get.ensures.value) c.joined.ensures
    ∙ noted_one r c.args.stretch.now c.args.back.now n (size_in old n) name size c.token-name.ensures c.size_behind.ensures declared
