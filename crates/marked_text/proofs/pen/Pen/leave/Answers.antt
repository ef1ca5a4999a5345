use Rattle.std.proofs.Common.{refl}
use Rattle.marked_text.specs.Writes.{spot}
use Rattle.marked_text.proofs.Going.{goes_none, goes_on, goes_blank}
use Rattle.marked_text.proofs.pen.Pen.leave.Goals as goal

pub loop-left-init : goal.loop-left-init
loop-left-init c = record {
  goes = λ ns. goes_none ns c.args.out.now.items (spot c.args.self.now);
  file = refl;
  line = refl;
}

pub loop-left-preserved : goal.loop-left-preserved
loop-left-preserved c = record {
  goes = λ ns. goes_on (c.loop-left.invariant.goes ns) (goes_blank ns c.loop-left.out.items c.push.new.self.items (spot c.loop-left.self) c.in_ok-push.ensures.items);
  file = c.loop-left.invariant.file;
  line = c.loop-left.invariant.line;
}
