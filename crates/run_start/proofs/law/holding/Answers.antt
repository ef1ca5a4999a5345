use Rattle.run_start.proofs.Holding.{each_holds, nothing_begins, others_hold}
use Rattle.run_start.proofs.law.holding.Goals as goal

pub returns-clause-each : goal.returns-clause-each
returns-clause-each c = each_holds

pub returns-clause-none : goal.returns-clause-none
returns-clause-none c = nothing_begins

pub returns-clause-others : goal.returns-clause-others
returns-clause-others c = λ ts s. others_hold ts s.initial s
