use Rattle.std.proofs.Common.{◌≡◌, ◌∙◌, arith, ap}
use Rattle.check_names.specs.Totals.{total_at}
use Rattle.check_names.proofs.Totalling.{variables-le, constants-le, totalled_more}
use Rattle.check_names.proofs.names.Names.add.Goals as goal

pub grown-total-requires : goal.grown-total-requires
grown-total-requires c =
    let s = c.args.self.now in
    let e : c.at.result.variables ≡ (total_at s.totals c.args.owner).variables =
    ap (λ t. t.variables) (c.at.ensures ∙ ap (λ ts. total_at ts c.args.owner) c.as_slice.ensures ∙ c.in_ok-grow.ensures.same c.args.owner) in
    omega (arith, variables-le s.table c.args.owner, c.requires.totalled.variables c.args.owner)

pub counted-self-requires : goal.counted-self-requires
counted-self-requires c = omega (arith, constants-le c.args.self.now.table, c.requires.totalled.constants)

pub returns-clause-totalled : goal.returns-clause-totalled
returns-clause-totalled c =
    let s = c.args.self.now in
    let base = totalled_more s.table s.totals c.grow.new.totals s.constants c.args.owner c.args.name.now c.args.thing c.requires.totalled c.in_ok-grow.ensures.same c.in_ok-grow.ensures.room c.counted-self.result c.counted-self.ensures in
    rw c.in_ok-add.ensures (rw c.set.ensures (rw c.grown-total.ensures (rw c.at.ensures (rw c.as_slice.ensures base))))
