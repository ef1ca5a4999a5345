use Rattle.std.proofs.Common.{◌∙◌, ◌+◌, cond, ap, sym}
use Rattle.std.specs.BTreeMap.{btree_map_len}
use Rattle.std.proofs.lemmas.Map.Text.{btree_map_updates_str}
use Rattle.pml_inline.proofs.Naming.{repeated-old, numbered-new}
use Rattle.pml_inline.proofs.names.numbered.Goals as goal

pub returns-then-is_some : goal.returns-then-is_some
returns-then-is_some c =
    repeated-old c.args.names.now c.loop-name.name-index _ c.loop-name.numbers c.in_ok-insert.field-0 c.loop-name-test.true c.loop-name.invariant.numbered c.in_ok-insert.ensures.old (sym c.is_some.ensures ∙ c.if-is_some.true)

pub loop-name-preserved : goal.loop-name-preserved
loop-name-preserved c =
    let new = numbered-new c.args.names.now c.loop-name.name-index _ c.loop-name.numbers c.insert.new.self c.in_ok-insert.field-0 c.len-number.result c.loop-name-test.true c.loop-name.invariant.numbered c.in_ok-insert.ensures.old (sym c.is_some.ensures ∙ c.if-is_some.false)
    (c.len-number.ensures.len ∙ c.loop-name.invariant.count) (λ n. btree_map_updates_str _ c.loop-name.numbers c.insert.new.self _ c.in_ok-insert.ensures.updates n) in
    record {
      numbered = new;
      count = c.in_ok-insert.ensures.len ∙ ap (λ b. btree_map_len c.loop-name.numbers + cond b 0 1) (sym c.is_some.ensures ∙ c.if-is_some.false) ∙ ap (λ n. n + 1) c.loop-name.invariant.count;
    }
