use Rattle.marked_text.proofs.Going.{goes_ok}
use Rattle.marked_text.specs.Writes.{spot}
use Rattle.marked_text.proofs.written.go_to.Goals as goal

pub returns-clause-goes : goal.returns-clause-goes
returns-clause-goes c = goes_ok c.mark-2.new.out.items (spot c.mark-2.new.self) c.mark-2.result c.in_ok-go_home.ensures c.mark-2.ensures.goes
