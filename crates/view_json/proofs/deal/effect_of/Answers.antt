use Rattle.view_json.proofs.deal.effect_of.Goals as goal

pub returns : goal.returns
returns c = (_, c.detail.ensures)
