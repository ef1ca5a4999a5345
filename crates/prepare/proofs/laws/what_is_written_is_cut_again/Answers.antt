use Rattle.prepare.proofs.Again.{cut_again}
use Rattle.prepare.proofs.laws.what_is_written_is_cut_again.Goals as goal

pub returns : goal.returns
returns c = λ text h.
    let again = cut_again text h in
    record { cut = again.0; are_cut = again.1.0; as_written = again.1.1 }
