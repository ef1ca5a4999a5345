use Rattle.std.proofs.Common.{ℕ, List, subst}
use Rattle.spinplay_program.specs.Ended.{IsChecked}
use Rattle.spinplay_program.proofs.checked.check_model.Goals as goal

pub returns-in_default : goal.returns-in_default
returns-in_default c =
    subst (λ (t : List ℕ). IsChecked t c.rejection_of-rejection.result) c.as_slice.ensures.value c.rejection_of-rejection.ensures
