use Rattle.view_text.proofs.Writing.{chained}
use Rattle.view_page.proofs.page.add_source.Goals as goal

pub returns : goal.returns
returns c =
    chained _ _ _ _ _ c.add_part.ensures
    (chained _ _ _ _ _ c.add_foreign.ensures
    (chained _ _ _ _ _ c.add_part-2.ensures
    (chained _ _ _ _ _ c.add_foreign-2.ensures
    (chained _ _ _ _ _ c.add_part-3.ensures c.add_foreign-3.ensures))))
