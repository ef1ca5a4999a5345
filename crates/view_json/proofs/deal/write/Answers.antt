use Rattle.std.proofs.Common.{◌∙◌, ap, ◌++◌, codes}
use Rattle.view_tokens.specs.Printed.{Printed}
use Rattle.view_json.specs.Objects.{detail}
use Rattle.view_json.specs.Lines.{dealt, dealing}
use Rattle.view_json.proofs.deal.write.Goals as goal

pub returns : goal.returns
returns c = record {
  deals = dealt c.args.by.now;
  words = c.effect_of.ensures.0;
  done = λ calm. c.transfer.ensures.added calm ∙ ap (λ (j : Printed). j.tokens ++ dealing c.args.live.now.state (dealt c.args.by.now)) c.clear.ensures;
  effect = λ calm. c.effect_of.ensures.1.added calm ∙ ap (λ (j : Printed). j.tokens ++ detail (codes "effect") c.effect_of.ensures.0) c.clear-2.ensures;
}
