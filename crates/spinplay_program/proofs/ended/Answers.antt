use Rattle.std.proofs.Common.{sym, subst}
use Rattle.spinplay_program.specs.Ended.{IsStatusOf}
use Rattle.spinplay_program.proofs.ended.Goals as goal

pub returns : goal.returns
returns c = record {
  outcome = c.outcome_of-outcome.result;
  is_outcome = c.outcome_of-outcome.ensures;
  is_status = subst (IsStatusOf c.outcome_of-outcome.result) (sym c.from.ensures) c.status_of.ensures;
}
