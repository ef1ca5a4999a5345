use Rattle.std.proofs.Common.{◌≡◌, ◌+◌, min, arith, rules}
use Rattle.promela_run.specs.Statements.{channels_by, channels_made}
use Rattle.run_start.proofs.Counted.{variable_counted, too_many, none_left}
use Rattle.run_start.proofs.counting.are_too_many.Goals as goal

pub loop-slot-preserved : goal.loop-slot-preserved
loop-slot-preserved c =
    let n : c.in_ok-count.count ≡ min 256 (c.loop-slot.count + channels_by c.args.beginnings.now.typedefs c.slot-item.result.initial c.slot-item.result) = search rules in
    let h = c.slot-item.is in
    record {
      same = variable_counted c.args.beginnings.now.typedefs c.args.slots.now c.loop-slot.slot-index c.loop-slot.count c.in_ok-count.count _ c.slot-item.result c.loop-slot-test.true c.slot-item.is n c.loop-slot.invariant.same;
      few = omega (arith, n);
    }

pub returns : goal.returns
returns c =
    let n = none_left c.args.beginnings.now.typedefs c.args.slots.now c.loop-slot.slot-index c.loop-slot-test.false in
    too_many c.loop-slot.count (c.args.live + channels_made c.args.beginnings.now.typedefs c.args.slots.now) (omega (arith, n, c.loop-slot.invariant.same))
