use Rattle.marked_text.specs.Writes.{spot}
use Rattle.marked_text.proofs.Going.{goes_by, stands_on}
use Rattle.marked_text.proofs.written.go_before.Goals as goal

pub returns-clause-goes : goal.returns-clause-goes
returns-clause-goes c = goes_by c.leave.new.out.items (spot c.leave.new.self) c.leave.result c.in_ok-go_to.ensures.goes c.leave.ensures.goes

pub returns-clause-there : goal.returns-clause-there
returns-clause-there c = stands_on (spot c.leave.new.self) c.leave.result c.in_ok-go_to.ensures.there c.leave.ensures.file c.leave.ensures.line
