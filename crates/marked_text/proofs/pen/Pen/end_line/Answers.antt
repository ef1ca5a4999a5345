use Rattle.marked_text.specs.Writes.{spot}
use Rattle.marked_text.proofs.Going.{ends_none, ends_feed}
use Rattle.marked_text.proofs.pen.Pen.end_line.Goals as goal

pub returns-then-self : goal.returns-then-self
returns-then-self c = λ ns. ends_none ns c.args.out.now.items (spot c.args.self.now) c.if-self.true

pub returns-then-self-eq-OWN : goal.returns-then-self-eq-OWN
returns-then-self-eq-OWN c = λ ns. ends_feed ns c.args.out.now.items c.push.new.self.items (spot c.args.self.now) c.in_ok-push.ensures.items

pub returns-else-self-eq-OWN : goal.returns-else-self-eq-OWN
returns-else-self-eq-OWN c = λ ns. ends_feed ns c.args.out.now.items c.push.new.self.items (spot c.args.self.now) c.in_ok-push.ensures.items
