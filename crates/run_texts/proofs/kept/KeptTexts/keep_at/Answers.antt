use Rattle.std.proofs.Common.{rules, ◌≡◌, ◌∙◌, sym, subst}
use Rattle.run_texts.specs.Kept.{AreTexts}
use Rattle.run_texts.proofs.Standing.{is_there, texts_more}
use Rattle.run_texts.proofs.kept.KeptTexts.keep_at.Goals as goal

pub invariant_of-known-2 : goal.invariant_of-known-2
invariant_of-known-2 c =
    subst (AreTexts _) (sym c.in_ok-push.ensures.items)
    (texts_more _ c.known.inside.texts.items _ c.known.invariant
    (is_there _ c.args.live.now.state (c.known.view_is ∙ c.requires.model) c.args.pick c.args.seat c.requires.there c.add_pick.new.text.items (search rules)))
