use Rattle.std.proofs.Common.{◌≡◌, ◌∙◌, ◌++◌, ◌∷◌, [], ℕ, List, ap, sym, subst, get_or, map}
use Rattle.std.proofs.lemmas.List.{take_all, map_more}
use Rattle.pml_inline.specs.declared.definitions.Definition.{Definition}
use Rattle.promela_text.specs.Inlines.{all_differ, parameter}
use Rattle.pml_inline.specs.Parts.{inlines_of, texts_of, AreNumbered}
use Rattle.pml_inline.proofs.Naming.{names-of}
use Rattle.pml_inline.proofs.Steps.{none_of, some_of}
use Rattle.pml_inline.proofs.definitions.callees.Goals as goal

pub returns-in_default-clause-err : goal.returns-in_default-clause-err
returns-in_default-clause-err c =
    let ts = c.args.tokens.now in
    let defs = c.args.definitions.now in
    let listed : texts_of c.loop-definition.called.items ≡ map (λ d. d.name) (inlines_of ts defs) =
    c.loop-definition.invariant ∙ ap (map (λ (d : Definition). d.name.now)) (take_all c.loop-definition.definition-index defs c.loop-definition-test.false) ∙ sym (names-of ts defs) in
    ap all_differ (sym listed ∙ sym (ap texts_of c.deref.ensures.value)) ∙ none_of _ _ _ c.in_default.is c.in_ok-numbers.ensures

pub loop-token-preserved : goal.loop-token-preserved
loop-token-preserved c =
    let numbered : AreNumbered c.in-Some.numbers.numbers (texts_of c.loop-definition.called.items) = subst (λ ns. AreNumbered c.in-Some.numbers.numbers (texts_of ns)) c.deref.ensures.value (some_of _ _ _ _ c.in-Some.is c.in_ok-numbers.ensures) in
    c.in_ok-push-2.ensures.items ∙ ap (λ v. c.loop-token.callees.items ++ v ∷ []) (c.parameter.ensures (texts_of c.loop-definition.called.items) numbered)
    ∙ ap (λ w. c.loop-token.callees.items ++ parameter (texts_of c.loop-definition.called.items) w ∷ []) c.token-item.is
    ∙ ap (λ vs. vs ++ parameter (texts_of c.loop-definition.called.items) (get_or c.args.tokens.now c.loop-token.token-index c.token-item.result) ∷ []) c.loop-token.invariant ∙ sym (map_more (parameter (texts_of c.loop-definition.called.items)) c.args.tokens.now c.loop-token.token-index c.token-item.result c.loop-token-test.true)

pub returns-clause-ok : goal.returns-clause-ok
returns-clause-ok c =
    let ts = c.args.tokens.now in
    let defs = c.args.definitions.now in
    let listed : texts_of c.loop-definition.called.items ≡ map (λ d. d.name) (inlines_of ts defs) =
    c.loop-definition.invariant ∙ ap (map (λ (d : Definition). d.name.now)) (take_all c.loop-definition.definition-index defs c.loop-definition-test.false) ∙ sym (names-of ts defs) in
    c.loop-token.invariant ∙ ap (map (parameter (texts_of c.loop-definition.called.items))) (take_all c.loop-token.token-index ts c.loop-token-test.false) ∙ ap (λ (ns : List (List ℕ)). map (parameter ns) ts) listed

pub returns-clause-apart : goal.returns-clause-apart
returns-clause-apart c =
    let ts = c.args.tokens.now in
    let defs = c.args.definitions.now in
    let listed : texts_of c.loop-definition.called.items ≡ map (λ d. d.name) (inlines_of ts defs) =
    c.loop-definition.invariant ∙ ap (map (λ (d : Definition). d.name.now)) (take_all c.loop-definition.definition-index defs c.loop-definition-test.false) ∙ sym (names-of ts defs) in
    let numbered : AreNumbered c.in-Some.numbers.numbers (texts_of c.loop-definition.called.items) = subst (λ ns. AreNumbered c.in-Some.numbers.numbers (texts_of ns)) c.deref.ensures.value (some_of _ _ _ _ c.in-Some.is c.in_ok-numbers.ensures) in
    ap all_differ (sym listed) ∙ numbered.apart
