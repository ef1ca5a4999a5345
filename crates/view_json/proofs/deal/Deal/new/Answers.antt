use Rattle.std.proofs.Common.{◌∙◌, ap, sym}
use Rattle.std.proofs.lemmas.Bool.{true≢false}
use Rattle.view_tokens.specs.Printed.{Printed}
use Rattle.view_json.proofs.Choices.{no_effect}
use Rattle.view_json.proofs.deal.Deal.new.Goals as goal

pub returns : goal.returns
returns c = λ s. record {
  deals = no_effect.deals;
  words = no_effect.words;
  done = λ calm. absurd (true≢false (sym (ap (λ (j : Printed). j.refused) c.refuse.ensures) ∙ calm));
  effect = λ calm. absurd (true≢false (sym (ap (λ (j : Printed). j.refused) c.refuse-2.ensures) ∙ calm));
}
