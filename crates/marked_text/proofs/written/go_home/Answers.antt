use Rattle.marked_text.specs.Writes.{names, spot}
use Rattle.marked_text.proofs.Going.{goes_none}
use Rattle.marked_text.proofs.written.go_home.Goals as goal

pub returns-else-pen-home : goal.returns-else-pen-home
returns-else-pen-home c = goes_none (names c.args.called.now) c.args.out.now.items (spot c.args.pen.now)
