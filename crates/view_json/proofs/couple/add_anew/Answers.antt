use Rattle.std.proofs.Common.{subst}
use Rattle.promela_run.specs.declared.moves.Pick.{Pick}
use Rattle.promela_run.specs.declared.moves.Move.TheVariants.{Pair}
use Rattle.view_tokens.specs.Printed.{Writes}
use Rattle.view_json.specs.Choices.{choice}
use Rattle.view_json.proofs.couple.add_anew.Goals as goal

pub returns-clause-choice : goal.returns-clause-choice
returns-clause-choice c =
    let s = c.args.live.now.state in
    let of = c.args.of in
    let told = c.renew.ensures.meets in (
      told.effect,
      subst (λ (j : Pick). Writes c.args.json.now c.join.new.self (choice s (Pair of.sender j of.is_late) told.effect)) c.renew.ensures.receiver
          (subst (λ (k : Pick). Writes c.args.json.now c.join.new.self (choice s (Pair k c.renew.new.last.partner.pick of.is_late) told.effect)) c.renew.ensures.sender
          (c.join.ensures.known _ told.whole)),
    )
