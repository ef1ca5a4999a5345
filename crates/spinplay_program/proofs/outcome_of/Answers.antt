use Rattle.std.proofs.Common.{sym, subst, inr}
use Rattle.spinplay_program.specs.Ended.{IsOfFiles}
use Rattle.spinplay_program.proofs.outcome_of.Goals as goal

pub returns : goal.returns
returns c =
    inr record {
      asked = c.in-Ok.asked;
      read = c.in-Ok.ensures.ok;
      of_file = subst IsOfFiles (sym c.new-in-Err-run_asked.ensures.stop) c.in-Err-run_asked.ensures.err;
    }
