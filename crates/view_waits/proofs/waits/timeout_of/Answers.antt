use Rattle.std.proofs.Common.{◌∙◌, ap, List}
use Rattle.std.specs.Prelude.{slice_get}
use Rattle.promela_run.specs.declared.moves.Move.{Move}
use Rattle.view_waits.specs.Searched.{timeout_by}
use Rattle.view_waits.proofs.Searched.{timeout_is}
use Rattle.view_waits.proofs.waits.timeout_of.Goals as goal

pub returns-clause-last : goal.returns-clause-last
returns-clause-last c s is = c.first_timeout.ensures ∙ ap (λ (ms : List Move). timeout_by (slice_get ms 0)) is ∙ timeout_is s
