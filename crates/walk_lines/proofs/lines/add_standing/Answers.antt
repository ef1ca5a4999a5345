use Rattle.walk_lines.proofs.lines.add_standing.Goals as goal

pub returns : goal.returns
returns c are refused = c.end_object.ensures.stays ((c.standing.ensures are).2.stays refused)
