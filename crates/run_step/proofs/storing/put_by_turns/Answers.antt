use Rattle.std.proofs.Common.{◌<◌, ℕ, ap, subst}
use Rattle.promela_process.specs.Expressions.{Reading}
use Rattle.run_step.proofs.storing.put_by_turns.Goals as goal

pub put_at-requires : goal.put_at-requires
put_at-requires c =
    subst (λ (cells : ℕ → ℕ → ℕ). c.in-Ok.place.cell < cells c.in-Ok.place.frame c.in-Ok.place.variable) (ap (λ (r : Reading). r.cells) c.view.ensures.reads) c.in-Ok.ensures.there
