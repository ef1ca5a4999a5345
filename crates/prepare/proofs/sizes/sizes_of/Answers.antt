use Rattle.std.proofs.Common.{ap, ◌∙◌}
use Rattle.pml_token.specs.declared.token.Kind.{Kind}
use Rattle.prepare.specs.Sizes.{behind}
use Rattle.prepare.specs.Found.{size_in}
use Rattle.prepare.proofs.Noting.{by_first, one_stretch}
use Rattle.prepare.proofs.sizes.sizes_of.Goals as goal

pub loop-rest-preserved : goal.loop-rest-preserved
loop-rest-preserved c = λ n.
    let r = c.loop-rest.reading in
    let t = c.stretch-item.result in
    let next = c.behind-reading.ensures ∙ ap (λ (k : Kind). behind r k c.token.result.now) c.kind.ensures ∙ ap (behind r t.kind) c.token.ensures in
    one_stretch n _ (size_in c.loop-rest.numbers n) _ r _ _ _ t (by_first c.loop-rest.rest.now t c.in-len1-up.len_at_least c.stretch-item.is) next (c.in_ok-note.ensures n) (c.loop-rest.invariant n)
