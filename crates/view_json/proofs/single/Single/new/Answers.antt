use Rattle.std.proofs.Common.{◌∙◌, ap, sym}
use Rattle.std.proofs.lemmas.Bool.{true≢false}
use Rattle.view_tokens.specs.Printed.{Printed}
use Rattle.view_json.proofs.Choices.{no_effect}
use Rattle.view_json.proofs.single.Single.new.Goals as goal

pub returns : goal.returns
returns c = λ s. record {
  first = λ calm. absurd (true≢false (sym c.new.ensures.nothing ∙ calm));
  effect = no_effect;
  whole = λ calm. absurd (true≢false (sym (ap (λ (j : Printed). j.refused) c.refuse.ensures) ∙ calm));
}
