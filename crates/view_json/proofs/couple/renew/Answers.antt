use Rattle.std.proofs.Common.{◌∙◌, ap, false, ◌++◌}
use Rattle.promela_run.specs.declared.moves.Move.TheVariants.{Pair}
use Rattle.view_tokens.specs.Printed.{Printed}
use Rattle.view_json.specs.Choices.{choice}
use Rattle.view_json.proofs.couple.renew.Goals as goal

pub returns-clause-meets : goal.returns-clause-meets
returns-clause-meets c =
    let told = c.write.ensures false in record {
      first = c.know.ensures.knows;
      partner = c.know-2.ensures.knows;
      deal = c.keep_deal.ensures;
      effect = told.0;
      whole = λ calm. told.1.added calm ∙ ap (λ (j : Printed). j.tokens ++ choice c.args.live.now.state (Pair c.know.new.known.pick c.know-2.new.known.pick false) told.0) c.clear.ensures;
    }
