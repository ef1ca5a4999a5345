use Rattle.std.proofs.Common.{◌∙◌, ap, sym, false, ◌++◌}
use Rattle.std.proofs.lemmas.Bool.{true≢false}
use Rattle.promela_run.specs.declared.moves.Move.TheVariants.{Alone}
use Rattle.view_tokens.specs.Printed.{Printed}
use Rattle.view_json.proofs.Choices.{no_effect}
use Rattle.view_json.specs.Choices.{choice}
use Rattle.view_json.proofs.single.renew.Goals as goal

pub returns-in-Ok-clause-tells : goal.returns-in-Ok-clause-tells
returns-in-Ok-clause-tells c =
    let told = c.write.ensures false in record {
      first = c.know.ensures.knows;
      effect = told.0;
      whole = λ calm. told.1.added calm ∙ ap (λ (j : Printed). j.tokens ++ choice c.args.live.now.state (Alone c.know.new.known.pick false) told.0) c.clear.ensures;
    }

pub returns-in-Err-clause-tells : goal.returns-in-Err-clause-tells
returns-in-Err-clause-tells c = record {
  first = c.know.ensures.knows;
  effect = no_effect;
  whole = λ calm. absurd (true≢false (sym (ap (λ (j : Printed). j.refused) c.refuse.ensures) ∙ calm));
}
