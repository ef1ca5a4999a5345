use Rattle.std.proofs.Common.{subst}
use Rattle.promela_run.specs.declared.moves.Pick.{Pick}
use Rattle.promela_run.specs.declared.moves.Move.TheVariants.{Alone}
use Rattle.view_tokens.specs.Printed.{Writes}
use Rattle.view_json.specs.Choices.{choice}
use Rattle.view_json.proofs.single.add_anew.Goals as goal

pub returns-clause-choice : goal.returns-clause-choice
returns-clause-choice c =
    let told = c.renew.ensures.tells in (
      told.effect,
      subst (λ (k : Pick). Writes c.args.json.now c.join.new.self (choice c.args.live.now.state (Alone k c.args.is_late) told.effect)) c.renew.ensures.pick
          (c.join.ensures.known _ told.whole),
    )
