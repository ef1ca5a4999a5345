use Rattle.std.proofs.Common.{Ok, sym, ap, ◌∙◌}
use Rattle.pml_eval.proofs.Asking.{wants-length}
use Rattle.pml_eval.proofs.Matching.{matched-length}
use Rattle.run_search.proofs.message.is_asked.Goals as goal

pub returns-then-arguments-len : goal.returns-then-arguments-len
returns-then-arguments-len c ws all =
    ap Ok (sym (matched-length ws c.args.m.now.fields (λ e. c.if-arguments-len.true (sym (wants-length _ _ ws all) ∙ (e ∙ sym c.len.ensures)))))
