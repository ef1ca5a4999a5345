use Rattle.std.proofs.Common.{◌∙◌, sym, ap, arith, length}
use Rattle.check_names.specs.Env.{after}
use Rattle.check_names.proofs.Looking.{env-empty, env-more, after-length}
use Rattle.check_names.proofs.names.all_names.Goals as goal

pub loop-mark-init : goal.loop-mark-init
loop-mark-init c = record { table = c.new-names.ensures.empty ∙ sym env-empty; few = omega (arith, ap length c.new-names.ensures.empty); totalled = c.new-names.ensures.totalled }

pub loop-mark-preserved : goal.loop-mark-preserved
loop-mark-preserved c =
    let m = c.mark-item.result in
    let old = c.loop-mark.names.table in
    let e = c.in_ok-declare.ensures.table in
    record {
      table = e ∙ ap (λ es. after es m.owner m.what) c.loop-mark.invariant.table ∙ sym (env-more c.args.marks.now c.loop-mark.mark-index m c.loop-mark-test.true c.mark-item.is);
      few = omega (arith, ap length e, after-length old m.owner m.what);
      totalled = c.in_ok-declare.ensures.totalled;
    }
