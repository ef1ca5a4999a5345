use Rattle.std.proofs.Common.{refl}
use Rattle.explain.proofs.Telling.{plain_ok}
use Rattle.explain.proofs.explain.Goals as goal

pub returns : goal.returns
returns c = plain_ok _ _ _ refl refl c.explain_beside.ensures
