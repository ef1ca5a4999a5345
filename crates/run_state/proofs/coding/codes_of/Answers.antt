use Rattle.std.proofs.Common.{◌≡◌, ◌+◌, ◌∙◌, ℕ, arith, ap, length, sym}
use Rattle.run_state.specs.Coded.{basic_in}
use Rattle.run_state.proofs.coding.codes_of.Goals as goal

pub loop-number-preserved : goal.loop-number-preserved
loop-number-preserved c =
    let a = c.in_ok-add_code.ensures in
    let e = c.loop-number.invariant.counted in
    let counted = a.counted in
    let n : c.loop-number.number + 1 ≡ length c.add_code.new.codes.codes = omega (arith, counted, e) in
    record {
      counted = n;
      are = a.are c.args.statements.now (ap (λ (n : ℕ). basic_in c.args.statements.now n) (sym e) ∙ sym c.basic_at.ensures) c.loop-number.invariant.are;
    }
