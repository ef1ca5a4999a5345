use Rattle.view_text.proofs.Writing.{chained}
use Rattle.view_json.proofs.lines.end_line.Goals as goal

pub returns-clause-line : goal.returns-clause-line
returns-clause-line c = chained _ _ _ _ _ c.finish.ensures.written c.add.ensures
