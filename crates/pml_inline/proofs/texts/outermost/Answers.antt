use Rattle.std.proofs.Common.{rules, ◌≡◌, ◌∙◌, ◌+◌, ◌-◌, ◌<◌, [], true, false, Some, refl, ap, sym, take, drop, length, arith}
use Rattle.pml_token.specs.declared.token.Kind.TheVariants.{OpenParen, CloseParen}
use Rattle.profile.specs.declared.TheConstants.{MOST_CALLS}
use Rattle.promela_text.specs.Inlines.{has_inline, closing}
use Rattle.pml_inline.specs.Expansion.{join_given, calling, reading}
use Rattle.pml_inline.specs.Places.{word_at}
use Rattle.pml_inline.specs.Texts.{inlines, read_within, given_of}
use Rattle.pml_inline.proofs.Lists.{over_call}
use Rattle.pml_inline.proofs.Naming.{callee-begins}
use Rattle.pml_inline.proofs.Reading.{text_open, text_inline_inside}
use Rattle.pml_inline.proofs.Steps.{read_done, read_past, at_range, past-along, misread_none, misread_past, text_past_call, text_after_call, whole_closing, read_alone}
use Rattle.pml_inline.proofs.texts.outermost.Goals as goal

pub returns-in_default : goal.returns-in_default
returns-in_default c = λ b.
    let text = c.args.text.now in
    let ts = text.tokens.now in
    let ds = inlines text in
    let call = c.requires.call in
    let lt : c.args.at < length ts = let w = call.within in omega arith in
    misread_none (Some (given_of c.args.given.now)) _ _ refl
    (text_open ts (take c.args.known ds) (drop c.args.known ds) b c.args.at lt call.called call.plain call.is (whole_closing ts text.places.now (c.args.at + 2) c.closing.result c.requires.text.whole c.closing.ensures.value ∙ c.in_default.is))

pub returns-then-has_inline : goal.returns-then-has_inline
returns-then-has_inline c = λ b.
    let text = c.args.text.now in
    let ts = text.tokens.now in
    let ds = inlines text in
    let at = c.args.at in
    let call = c.requires.call in
    let lt : at < length ts = let w = call.within in omega arith in
    let m = c.in-Some.length in
    let closes : closing OpenParen CloseParen (drop (at + 2) ts) 0 ≡ Some m = whole_closing ts text.places.now (at + 2) c.closing.result c.requires.text.whole c.closing.ensures.value ∙ c.in-Some.is in
    let found : has_inline (take m (drop (at + 2) ts)) ≡ true = ap has_inline (sym (at_range ts (at + 2) m)) ∙ sym c.has_inline.ensures ∙ c.if-has_inline.true in
    misread_none (Some (given_of c.args.given.now)) _ _ refl (text_inline_inside ts (take c.args.known ds) (drop c.args.known ds) b at lt call.called m call.plain call.is closes found)

pub returns-then-not-branch : goal.returns-then-not-branch
returns-then-not-branch c = λ b.
    let text = c.args.text.now in
    let ts = text.tokens.now in
    let ds = inlines text in
    let at = c.args.at in
    let known = c.args.known in
    let before = given_of c.args.given.now in
    let call = c.requires.call in
    let lt : at < length ts = let w = call.within in omega arith in
    let m = c.in-Some.length in
    let closes : closing OpenParen CloseParen (drop (at + 2) ts) 0 ≡ Some m = whole_closing ts text.places.now (at + 2) c.closing.result c.requires.text.whole c.closing.ensures.value ∙ c.in-Some.is in
    let clean : has_inline (take m (drop (at + 2) ts)) ≡ false = ap has_inline (sym (at_range ts (at + 2) m)) ∙ sym c.has_inline.ensures ∙ c.if-has_inline.false in
    let alone : read_within text known c.new-active.result.items (take (at + 3 + m - at) (drop at text.places.now)) ≡ reading (take known ds) (calling (take known ds) MOST_CALLS []) (take (m + 3) (drop at ts)) 0 = read_alone text known c.new-active.result.items at m c.new-active.ensures.items c.requires.text.whole in
    let undone : c.in_ok-read.field-0 ≡ false = search rules in
    let past = read_past _ _ _ _ undone c.in_ok-read.ensures.read in
    misread_past _ _ refl
    (text_past_call ts (take known ds) (drop known ds) b at lt before.tokens before.count call.called m call.plain call.is closes clean
    (past-along _ _ (ap (join_given (Some before)) alone) past))

pub returns : goal.returns
returns c =
    let text = c.args.text.now in
    let ts = text.tokens.now in
    let ds = inlines text in
    let at = c.args.at in
    let known = c.args.known in
    let before = given_of c.args.given.now in
    let call = c.requires.call in
    let lt : at < length ts = let w = call.within in omega arith in
    let m = c.in-Some.length in
    let closes : closing OpenParen CloseParen (drop (at + 2) ts) 0 ≡ Some m = whole_closing ts text.places.now (at + 2) c.closing.result c.requires.text.whole c.closing.ensures.value ∙ c.in-Some.is in
    let clean : has_inline (take m (drop (at + 2) ts)) ≡ false = ap has_inline (sym (at_range ts (at + 2) m)) ∙ sym c.has_inline.ensures ∙ c.if-has_inline.false in
    let alone : read_within text known c.new-active.result.items (take (at + 3 + m - at) (drop at text.places.now)) ≡ reading (take known ds) (calling (take known ds) MOST_CALLS []) (take (m + 3) (drop at ts)) 0 = read_alone text known c.new-active.result.items at m c.new-active.ensures.items c.requires.text.whole in
    let done : c.in_ok-read.field-0 ≡ true = search rules in
    let read = read_done _ _ _ _ done c.in_ok-read.ensures.read in
    let result : join_given (Some before) (reading (take known ds) (calling (take known ds) MOST_CALLS []) (take (m + 3) (drop at ts)) 0) ≡ Some (given_of c.read.new.given) = ap (join_given (Some before)) (sym alone) ∙ read.0 in
    record {
      here = λ b. text_after_call ts (take known ds) (drop known ds) b at lt before.tokens before.count call.called m (given_of c.read.new.given) call.plain call.is closes clean result;
      defined = sym (over_call ts at m lt call.plain (callee-begins (take known ds) (word_at ts at) (drop (at + 1) ts) call.called call.is) closes clean);
      few = read.1;
      on = omega arith;
    }
