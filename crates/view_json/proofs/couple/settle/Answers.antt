use Rattle.std.proofs.Common.{◌∙◌, ap, sym, subst, false}
use Rattle.view_tokens.specs.Printed.{Printed}
use Rattle.view_json.specs.declared.known.Known.{Known}
use Rattle.view_json.specs.Known.{Knows}
use Rattle.view_json.specs.Choices.{choice}
use Rattle.promela_run.specs.declared.moves.Move.TheVariants.{Pair}
use Rattle.view_json.proofs.Alike.{alike_is, alike_calm, same_couple}
use Rattle.view_json.proofs.couple.settle.Goals as goal

pub returns-then-is_same-clause-meets : goal.returns-then-is_same-clause-meets
returns-then-is_same-clause-meets c =
    let s = c.args.live.now.state in
    let of = c.args.of in
    let old = c.args.last.now in
    let had = c.requires.meets in
    let same_first = c.requires.first in
    let same_partner = c.requires.partner in
    let first = alike_is s old.first of.sender of.first c.requires.seen.first had.first same_first in
    let partner = alike_is s old.partner of.receiver of.partner c.requires.seen.partner had.partner same_partner in
    let was = had.first (alike_calm old.first of.sender.process of.first same_first) in
    let stood = had.partner (alike_calm old.partner of.receiver.process of.partner same_partner) in record {
      first = subst (λ (k : Known). Knows s k) (sym c.go_on.ensures.first) (λ calm. first);
      partner = subst (λ (k : Known). Knows s k) (sym c.go_on.ensures.partner) (λ calm. partner);
      deal = record {
        deals = had.deal.deals;
        words = had.deal.words;
        done = λ calm. ap (λ (j : Printed). j.tokens) c.go_on.ensures.done ∙ had.deal.done (sym (ap (λ (j : Printed). j.refused) c.go_on.ensures.done) ∙ calm);
        effect = λ calm. ap (λ (j : Printed). j.tokens) c.go_on.ensures.effect ∙ had.deal.effect (sym (ap (λ (j : Printed). j.refused) c.go_on.ensures.effect) ∙ calm);
      };
      effect = had.effect;
      whole = λ calm.
          ap (λ (j : Printed). j.tokens) c.go_on.ensures.whole
          ∙ had.whole (sym (ap (λ (j : Printed). j.refused) c.go_on.ensures.whole) ∙ calm)
          ∙ same_couple s old.first old.partner of.sender of.receiver had.effect was first stood partner
          ∙ (λ i. choice s (Pair (sym c.go_on.ensures.first i).pick (sym c.go_on.ensures.partner i).pick false) had.effect);
    }
