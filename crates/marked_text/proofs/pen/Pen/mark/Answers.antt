use Rattle.marked_text.specs.Writes.{names}
use Rattle.marked_text.proofs.Going.{marks}
use Rattle.marked_text.proofs.pen.Pen.mark.Goals as goal

pub returns-then-file-eq-OWN-clause-goes : goal.returns-then-file-eq-OWN-clause-goes
returns-then-file-eq-OWN-clause-goes c = marks c.args.file c.args.line (c.in_ok-own.ensures (names c.args.called.now)) c.name_of.ensures c.in_ok-add_mark.ensures

pub returns-else-file-eq-OWN-clause-goes : goal.returns-else-file-eq-OWN-clause-goes
returns-else-file-eq-OWN-clause-goes c = marks c.args.file c.args.line (c.in_ok-own.ensures (names c.args.called.now)) c.name_of.ensures c.in_ok-add_mark.ensures
