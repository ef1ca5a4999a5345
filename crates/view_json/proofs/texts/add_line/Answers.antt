use Rattle.view_json.proofs.texts.add_line.Goals as goal

pub returns-clause-written : goal.returns-clause-written
returns-clause-written c = c.join.ensures.known _ c.settle.ensures.written
