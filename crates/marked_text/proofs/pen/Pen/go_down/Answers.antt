use Rattle.std.proofs.Common.{refl, arith}
use Rattle.marked_text.specs.Writes.{spot}
use Rattle.marked_text.proofs.Going.{goes_none, goes_on, goes_feed}
use Rattle.marked_text.proofs.pen.Pen.go_down.Goals as goal

pub loop-self-init : goal.loop-self-init
loop-self-init c = record {
  goes = λ ns. goes_none ns c.args.out.now.items (spot c.args.self.now);
  file = refl;
  up = omega arith;
  down = omega arith;
}

pub loop-self-preserved : goal.loop-self-preserved
loop-self-preserved c =
    let up = c.loop-self.invariant.up in
    let down = c.loop-self.invariant.down in
    let test = c.loop-self-test.true in
    record {
      goes = λ ns. goes_on (c.loop-self.invariant.goes ns) (goes_feed ns c.loop-self.out.items c.push.new.self.items (spot c.loop-self.self) c.in_ok-push.ensures.items);
      file = c.loop-self.invariant.file;
      up = omega arith;
      down = omega arith;
    }
