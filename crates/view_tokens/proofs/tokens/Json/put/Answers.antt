use Rattle.std.proofs.Common.{◌∙◌, ap, ◌++◌, ◌∷◌, []}
use Rattle.view_tokens.specs.Printed.{Printed}
use Rattle.view_tokens.proofs.Growing.{grown, grown_tokens}
use Rattle.view_tokens.proofs.tokens.Json.put.Goals as goal

pub invariant_of-self : goal.invariant_of-self
invariant_of-self c = grown _ _ _ _ _ _ c.requires.0 c.self.invariant c.requires.1 c.in-Ok.ensures.added

pub returns-in-Ok : goal.returns-in-Ok
returns-in-Ok c = λ t one. record {
  stays = λ r. ap (λ (v : Printed). v.refused) c.self.view_is ∙ r;
  added = λ calm. grown_tokens _ _ _ _ _ _ t c.self.invariant one c.in-Ok.ensures.added ∙ ap (λ (v : Printed). v.tokens ++ t ∷ []) c.self.view_is;
}
