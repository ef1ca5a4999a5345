use Rattle.std.proofs.Common.{◌∙◌, sym, arith}
use Rattle.view_json.specs.Before.{single_alike}
use Rattle.view_json.proofs.Places.{found, none_found}
use Rattle.view_json.proofs.singles.place_of.Goals as goal

pub returns-then-is_at : goal.returns-then-is_at
returns-then-is_at c = found (single_alike c.args.process c.args.seen) c.args.all.now c.loop-at.at c.loop-at.invariant.1 (sym c.is_at.ensures ∙ c.if-is_at.true)

pub returns : goal.returns
returns c =
    none_found (single_alike c.args.process c.args.seen) c.args.all.now (λ k l.
    let end = c.loop-at-test.false in
    c.loop-at.invariant.1 k (omega (arith, l, end)))
