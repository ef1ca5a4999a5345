use Rattle.std.proofs.Common.{sym, ap, subst, ◌∙◌, map}
use Rattle.spinplay_program.specs.Ended.{IsAskedFor}
use Rattle.spinplay_program.proofs.asked_of.Goals as goal

pub returns-then-is_some-clause-err : goal.returns-then-is_some-clause-err
returns-then-is_some-clause-err c = (
  c.in-Ok-arguments.asked,
  subst (λ words. IsAskedFor words c.in-Ok-arguments.asked) (ap (map (λ w. w.now)) c.as_slice.ensures.value ∙ c.in-Ok.ensures) c.in-Ok-arguments.ensures.ok,
  c.if-asked.true,
  sym c.if-is_some.ensures,
)

pub returns-then-not-fit_together-clause-err : goal.returns-then-not-fit_together-clause-err
returns-then-not-fit_together-clause-err c = (
  c.in-Ok-arguments.asked,
  subst (λ words. IsAskedFor words c.in-Ok-arguments.asked) (ap (map (λ w. w.now)) c.as_slice.ensures.value ∙ c.in-Ok.ensures) c.in-Ok-arguments.ensures.ok,
  sym c.fit_together.ensures ∙ c.if-not-fit_together.true,
)
