use Rattle.std.proofs.Common.{◌<◌, ℕ, ap, subst}
use Rattle.std.specs.Prelude.{IfSome}
use Rattle.promela_process.specs.Expressions.{Reading}
use Rattle.promela_run.specs.declared.goes.Goes.{Goes}
use Rattle.run_step.proofs.effect.run_into.Goals as goal

pub put-requires : goal.put-requires
put-requires c =
    subst (λ (cells : ℕ → ℕ → ℕ). IfSome c.in-Ok.goes (λ (g : Goes). g.place.cell < cells g.place.frame g.place.variable)) (ap (λ (r : Reading). r.cells) c.view.ensures.reads) c.in-Ok.ensures.there
