use Rattle.std.specs.Prelude.{MatchOption}
use Rattle.std.proofs.Common.{rules, subst, ◌≡◌, ◌∙◌, ◌+◌, ◌<◌, ◌≤◌, ◌++◌, ◌∷◌, [], true, false, Some, None, ap, sym, get_or, take, drop, length, arith}
use Rattle.std.proofs.lemmas.List.{get_or_default, get_or-map, drop_all, length-map}
use Rattle.promela_text.specs.Inlines.{is_inline, Inline, callee, braces_behind}
use Rattle.pml_inline.specs.Expansion.{join_given, limited, texts}
use Rattle.pml_inline.specs.Places.{no_word, word_at}
use Rattle.pml_inline.specs.Parts.{inline_of}
use Rattle.pml_inline.specs.Texts.{given_of, IsWrongCall, IsReadCall, inlines, option_inline}
use Rattle.pml_inline.proofs.Joins.{nothing-join}
use Rattle.pml_inline.proofs.Lists.{not_defined_at}
use Rattle.pml_inline.proofs.Reading.{text_in_braces, text_undefined}
use Rattle.pml_inline.proofs.Steps.{whole_length, no_inline, inline_number, callee_some, misread_none, text_all, text_after_token, whole_callee, definition_step}
use Rattle.pml_inline.proofs.texts.expanded.Goals as goal

pub loop-at-init : goal.loop-at-init
loop-at-init c = record {
  here = ap (λ ts. join_given (Some (record { tokens = ts; count = 0 })) (texts c.args.text.now.tokens.now [] (inlines c.args.text.now) 0 0)) c.new.ensures.items ∙ nothing-join (texts c.args.text.now.tokens.now [] (inlines c.args.text.now) 0 0);
  defined = c.requires.defined;
  few = omega arith;
  braces_fit = omega arith;
  known_fits = omega arith;
}

pub returns-then-braces-gt0-clause-err : goal.returns-then-braces-gt0-clause-err
returns-then-braces-gt0-clause-err c =
    let text = c.args.text.now in
    let ts = text.tokens.now in
    let ps = text.places.now in
    let ds = inlines text in
    let at = c.loop-at.at in
    let known = c.loop-at.known in
    let lt : at < length ts = c.loop-at-test.true in
    let word : get_or ts at c.index-text-at.result ≡ word_at ts at = get_or_default ts at c.index-text-at.result no_word lt in
    let inline : is_inline (word_at ts at) ≡ true = ap is_inline (sym word) ∙ sym c.is_inline.ensures ∙ c.if-is_inline.true in
    misread_none (Some (record { tokens = c.loop-at.given.tokens.items; count = c.loop-at.given.count })) _ _ c.loop-at.invariant.here (text_in_braces ts (take known ds) (drop known ds) c.loop-at.braces at lt inline c.if-braces-gt0.true)

pub returns-then-known-text-clause-err : goal.returns-then-known-text-clause-err
returns-then-known-text-clause-err c =
    let text = c.args.text.now in
    let ts = text.tokens.now in
    let ps = text.places.now in
    let ds = inlines text in
    let at = c.loop-at.at in
    let known = c.loop-at.known in
    let lt : at < length ts = c.loop-at-test.true in
    let word : get_or ts at c.index-text-at.result ≡ word_at ts at = get_or_default ts at c.index-text-at.result no_word lt in
    let inline : is_inline (word_at ts at) ≡ true = ap is_inline (sym word) ∙ sym c.is_inline.ensures ∙ c.if-is_inline.true in
    let past : length ds ≤ known = let e = length-map text.definitions.now (inline_of ts) in let k = c.if-known-text.true in omega arith in
    misread_none (Some (record { tokens = c.loop-at.given.tokens.items; count = c.loop-at.given.count })) _ _ c.loop-at.invariant.here (text_undefined ts (take known ds) (drop known ds) c.loop-at.braces at lt inline (drop_all known ds past))

pub loop-at-preserved-then-is_inline : goal.loop-at-preserved-then-is_inline
loop-at-preserved-then-is_inline c =
    let text = c.args.text.now in
    let ts = text.tokens.now in
    let ps = text.places.now in
    let ds = inlines text in
    let at = c.loop-at.at in
    let known = c.loop-at.known in
    let lt : at < length ts = c.loop-at-test.true in
    let word : get_or ts at c.index-text-at.result ≡ word_at ts at = get_or_default ts at c.index-text-at.result no_word lt in
    let inline : is_inline (word_at ts at) ≡ true = ap is_inline (sym word) ∙ sym c.is_inline.ensures ∙ c.if-is_inline.true in
    let few : known < length ds = let e = length-map text.definitions.now (inline_of ts) in let k = c.if-known-text.false in omega arith in
    let size = (get_or text.definitions.now known c.index-text-known.result).size in
    let sized : (get_or ds known no_inline).size ≡ size = ap (λ (x : Inline). x.size) (get_or-map (inline_of ts) text.definitions.now known c.index-text-known.result no_inline c.if-known-text.false) in
    let none : c.loop-at.braces ≤ 0 = c.if-braces-gt0.false in
    let step = definition_step ts ds known c.loop-at.braces at size no_inline lt inline none few sized c.loop-at.invariant.defined in
    record {
      here = ap (join_given (Some (record { tokens = c.loop-at.given.tokens.items; count = c.loop-at.given.count }))) step.0 ∙ c.loop-at.invariant.here;
      defined = step.1;
      few = c.loop-at.invariant.few;
      braces_fit = omega arith;
      known_fits = omega arith;
    }

pub loop-at-preserved-in-None : goal.loop-at-preserved-in-None
loop-at-preserved-in-None c =
    let text = c.args.text.now in
    let ts = text.tokens.now in
    let ps = text.places.now in
    let ds = inlines text in
    let at = c.loop-at.at in
    let known = c.loop-at.known in
    let lt : at < length ts = c.loop-at-test.true in
    let word : get_or ts at c.index-text-at.result ≡ word_at ts at = get_or_default ts at c.index-text-at.result no_word lt in
    let plain : is_inline (word_at ts at) ≡ false = ap is_inline (sym word) ∙ sym c.is_inline.ensures ∙ c.if-is_inline.false in
    let calls : callee (take known ds) (word_at ts at) (drop (at + 1) ts) ≡ None = whole_callee (take known ds) ts ps at None c.requires.text.whole lt (c.callee.ensures.value ∙ ap (option_inline ds) c.in-None.is) in
    let braces : c.braces_behind-braces.result ≡ braces_behind c.loop-at.braces (word_at ts at) = c.braces_behind-braces.ensures ∙ ap (braces_behind c.loop-at.braces) word in
    record {
      here = ap (λ n. join_given (Some (record { tokens = c.push.new.self.items; count = c.loop-at.given.count })) (texts (drop (at + 1) ts) (take known ds) (drop known ds) n 0)) braces
          ∙ text_after_token ts (take known ds) (drop known ds) c.loop-at.braces at lt c.loop-at.given.tokens.items c.loop-at.given.count c.push.new.self.items plain calls
          (c.in_ok-push-in-None.ensures.items ∙ ap (λ w. c.loop-at.given.tokens.items ++ w ∷ []) (c.copied.ensures ∙ word)) ∙ c.loop-at.invariant.here;
      defined = sym (not_defined_at ts at lt plain) ∙ c.loop-at.invariant.defined;
      few = c.loop-at.invariant.few;
      braces_fit = search rules;
      known_fits = c.loop-at.invariant.known_fits;
    }

pub outermost-requires-clause-call : goal.outermost-requires-clause-call
outermost-requires-clause-call c =
    let text = c.args.text.now in
    let ts = text.tokens.now in
    let ps = text.places.now in
    let ds = inlines text in
    let at = c.loop-at.at in
    let known = c.loop-at.known in
    let lt : at < length ts = c.loop-at-test.true in
    let word : get_or ts at c.index-text-at.result ≡ word_at ts at = get_or_default ts at c.index-text-at.result no_word lt in
    let plain : is_inline (word_at ts at) ≡ false = ap is_inline (sym word) ∙ sym c.is_inline.ensures ∙ c.if-is_inline.false in
    let behind : at + 1 < length ps = c.in-Some.ensures.behind in
    let len : length ps ≡ length ts = whole_length ts ps c.requires.text.whole in
    record {
      plain = plain;
      called = inline_number text c.in-Some._number;
      is = whole_callee (take known ds) ts ps at (Some (inline_number text c.in-Some._number)) c.requires.text.whole lt (callee_some text c.in-Some._number c.callee.result _ c.callee.ensures.value c.in-Some.is c.in-Some.ensures.within);
      within = omega arith;
    }

pub returns-in_default-clause-err : goal.returns-in_default-clause-err
returns-in_default-clause-err c =
    let text = c.args.text.now in
    let before = given_of c.loop-at.given in
    let wrong = subst (λ o. MatchOption o (IsWrongCall text c.loop-at.known c.loop-at.at before) (IsReadCall text c.loop-at.known c.loop-at.at before (given_of c.outermost.new.given))) c.in_default.is c.in_ok-end-in-Some.ensures in
    ap limited (sym c.loop-at.invariant.here) ∙ wrong c.loop-at.braces

pub loop-at-preserved : goal.loop-at-preserved
loop-at-preserved c =
    let text = c.args.text.now in
    let before = given_of c.loop-at.given in
    let read = subst (λ o. MatchOption o (IsWrongCall text c.loop-at.known c.loop-at.at before) (IsReadCall text c.loop-at.known c.loop-at.at before (given_of c.outermost.new.given))) c.in-Some-2.is c.in_ok-end-in-Some.ensures in
    record {
      here = read.here c.loop-at.braces ∙ c.loop-at.invariant.here;
      defined = read.defined ∙ c.loop-at.invariant.defined;
      few = read.few;
      braces_fit = let on = read.on in let b = c.loop-at.invariant.braces_fit in omega arith;
      known_fits = c.loop-at.invariant.known_fits;
    }

pub returns-clause-ok : goal.returns-clause-ok
returns-clause-ok c =
    let text = c.args.text.now in
    let ds = inlines text in
    text_all text.tokens.now (take c.loop-at.known ds) (drop c.loop-at.known ds) c.loop-at.braces c.loop-at.at (record { tokens = c.loop-at.given.tokens.items; count = c.loop-at.given.count }) _ c.loop-at-test.false c.loop-at.invariant.here c.loop-at.invariant.few
