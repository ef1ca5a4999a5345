use Rattle.std.proofs.Common.{rules, ◌≡◌, ◌∙◌, ◌+◌, ℕ, Bool, true, false, cond, length, List, Option, None, ap, sym, get_or, drop}
use Rattle.std.proofs.lemmas.List.{length-map}
use Rattle.pml_token.specs.declared.token.Kind.{Kind}
use Rattle.pml_token.specs.declared.token.Kind.TheVariants.{OpenParen}
use Rattle.pml_token.specs.Word.{same_kind}
use Rattle.pml_inline.specs.Places.{word_at, words_of}
use Rattle.pml_inline.specs.Parts.{inline_of, number_of}
use Rattle.pml_inline.specs.Texts.{inlines, option_inline, below}
use Rattle.pml_inline.proofs.Naming.{callee-is, number-at, begins-behind, begins-nothing, within-number}
use Rattle.pml_inline.proofs.calls.callee.Goals as goal

pub returns-then-at-places-clause-value : goal.returns-then-at-places-clause-value
returns-then-at-places-clause-value c =
    let ts = c.args.text.now.tokens.now in
    let ps = c.args.places.now in
    let ds = inlines c.args.text.now in
    let w = word_at ts (get_or ps c.args.at 0) in
    callee-is ds c.args.known w (words_of ts (drop (c.args.at + 1) ps)) ∙ ap (λ (b : Bool). cond b (option_inline ds (below c.args.known (number_of ds w))) None) (begins-nothing ts ps (c.args.at + 1) c.if-at-places.true)

pub returns-then-not-same_kind-clause-value : goal.returns-then-not-same_kind-clause-value
returns-then-not-same_kind-clause-value c =
    let ts = c.args.text.now.tokens.now in
    let ps = c.args.places.now in
    let ds = inlines c.args.text.now in
    let w = word_at ts (get_or ps c.args.at 0) in
    let other : c.same_kind.result ≡ false = search rules in
    callee-is ds c.args.known w (words_of ts (drop (c.args.at + 1) ps))
    ∙ ap (λ (b : Bool). cond b (option_inline ds (below c.args.known (number_of ds w))) None)
    (begins-behind ts ps (c.args.at + 1) c.if-at-places.false ∙ ap (λ (k : Kind). same_kind k OpenParen) (sym c.kind_at.ensures) ∙ sym c.same_kind.ensures ∙ other)

pub returns-clause-value : goal.returns-clause-value
returns-clause-value c =
    let ts = c.args.text.now.tokens.now in
    let ps = c.args.places.now in
    let ds = inlines c.args.text.now in
    let w = word_at ts (get_or ps c.args.at 0) in
    let same : c.same_kind.result ≡ true = search rules in
    callee-is ds c.args.known w (words_of ts (drop (c.args.at + 1) ps))
    ∙ ap (λ (b : Bool). cond b (option_inline ds (below c.args.known (number_of ds w))) None)
    (begins-behind ts ps (c.args.at + 1) c.if-at-places.false ∙ ap (λ (k : Kind). same_kind k OpenParen) (sym c.kind_at.ensures) ∙ sym c.same_kind.ensures ∙ same)
    ∙ ap (λ (o : Option ℕ). option_inline ds (below c.args.known o)) (sym (ap (λ (os : List (Option ℕ)). get_or os (get_or ps c.args.at 0) None) c.requires.text.called ∙ number-at ds ts (get_or ps c.args.at 0)))
    ∙ ap (option_inline ds) (sym c.number_at.ensures)

pub returns-clause-within : goal.returns-clause-within
returns-clause-within c =
    let ts = c.args.text.now.tokens.now in
    let ps = c.args.places.now in
    let ds = inlines c.args.text.now in
    let w = word_at ts (get_or ps c.args.at 0) in
    within-number ds c.args.known (length c.args.text.now.definitions.now) w c.number_at.result (length-map c.args.text.now.definitions.now (inline_of ts))
    (c.number_at.ensures ∙ ap (below c.args.known) (ap (λ (os : List (Option ℕ)). get_or os (get_or ps c.args.at 0) None) c.requires.text.called ∙ number-at ds ts (get_or ps c.args.at 0)))
