use Rattle.std.proofs.Common.{rules, true, false, ◌≡◌, ◌∙◌, ◌+◌, ◌-◌, ◌<◌, ◌++◌, ◌∷◌, [], ℕ, List, Some, ap, sym, subst, take, drop, length, arith}
use Rattle.std.proofs.lemmas.List.{length_push, length-take, length-drop}
use Rattle.std.proofs.lemmas.List.Elements.{All-same, All-push}
use Rattle.profile.specs.declared.TheConstants.{MOST_REPLACED}
use Rattle.pml_inline.specs.Expansion.{join_given}
use Rattle.pml_inline.specs.Places.{words_of}
use Rattle.pml_inline.specs.Texts.{inlines, option_inline, call_within, read_within, AreNumbers, IsReplaced, IsNotReplaced}
use Rattle.pml_inline.proofs.Steps.{inline_number, number_is, callee_some, none_of, some_of, at_rest, at_range, past-along, after_token, past_open, past_replacement, past_inside, after_call, read_all, read_done, read_past, on_true, inner, replaced_here, popped}
use Rattle.pml_inline.proofs.calls.+read.Goals as goal

pub loop-at-preserved-in-None : goal.loop-at-preserved-in-None
loop-at-preserved-in-None t c =
    let text = c.args.text.now in
    let ts = text.tokens.now in
    let ps = c.args.places.now in
    record {
      same = c.loop-at.invariant.same;
      here = after_token (take c.args.known (inlines text)) (call_within text c.args.known c.args.active.now.items) ts ps c.loop-at.at c.loop-at-test.true c.loop-at.given.tokens.items c.loop-at.given.count c.push.new.self.items
          (c.callee.ensures.value ∙ ap (option_inline (inlines text)) c.in-None.is) (c.in_ok-push-in-None.ensures.items ∙ ap (λ w. c.loop-at.given.tokens.items ++ w ∷ []) c.token_at.ensures) ∙ c.loop-at.invariant.here;
      few = c.loop-at.invariant.few;
      within = omega arith;
    }

pub returns-in_default-clause-read : goal.returns-in_default-clause-read
returns-in_default-clause-read t c =
    let text = c.args.text.now in
    let ts = text.tokens.now in
    let ps = c.args.places.now in
    past-along _ _ c.loop-at.invariant.here
    (past_open (take c.args.known (inlines text)) (call_within text c.args.known c.args.active.now.items) ts ps c.loop-at.at c.loop-at-test.true c.loop-at.given.tokens.items c.loop-at.given.count
    (inline_number text c.in-Some.number) (callee_some text c.in-Some.number c.callee.result _ c.callee.ensures.value c.in-Some.is c.in-Some.ensures.within)
    (at_rest ts ps (c.loop-at.at + 2) c.closing.result c.closing.ensures.value ∙ c.in_default.is))

pub replacement-requires-clause-numbers : goal.replacement-requires-clause-numbers
replacement-requires-clause-numbers t c = All-same (λ k. k < length c.args.text.now.definitions.now) c.deref.result.now c.args.active.now.items (c.deref.ensures.value ∙ c.loop-at.invariant.same) c.requires.numbers

pub returns-in_default-2-clause-read : goal.returns-in_default-2-clause-read
returns-in_default-2-clause-read t c =
    let text = c.args.text.now in
    let ts = text.tokens.now in
    let ps = c.args.places.now in
    let d = inline_number text c.in-Some.number in
    let inside = words_of ts (take c.in-Some-closing.length (drop (c.loop-at.at + 2) ps)) in
    let room : c.loop-at.given.count + (MOST_REPLACED - c.loop-at.given.count) ≡ MOST_REPLACED = omega arith in
    let none = none_of _ _ _ c.in_default-2.is (c.in_ok-replaced-in-Some.ensures c.args.known d (number_is text c.in-Some.number c.in-Some.ensures.within)) in
    let act : c.deref.result.now ≡ c.args.active.now.items = c.deref.ensures.value ∙ c.loop-at.invariant.same in
    let none_act : IsNotReplaced text c.args.known c.args.active.now.items (words_of ts (take (c.loop-at.at + 2 + c.in-Some-closing.length - (c.loop-at.at + 2)) (drop (c.loop-at.at + 2) ps))) (MOST_REPLACED - c.loop-at.given.count) d =
    subst (λ (a : List ℕ). IsNotReplaced text c.args.known a (words_of ts (take (c.loop-at.at + 2 + c.in-Some-closing.length - (c.loop-at.at + 2)) (drop (c.loop-at.at + 2) ps))) (MOST_REPLACED - c.loop-at.given.count) d) act none in
    let none_here : IsNotReplaced text c.args.known c.args.active.now.items inside (MOST_REPLACED - c.loop-at.given.count) d =
    subst (λ (qs : List ℕ). IsNotReplaced text c.args.known c.args.active.now.items (words_of ts qs) (MOST_REPLACED - c.loop-at.given.count) d) (at_range ps (c.loop-at.at + 2) c.in-Some-closing.length) none_act in
    past-along _ _ c.loop-at.invariant.here
    (past_replacement (take c.args.known (inlines text)) (call_within text c.args.known c.args.active.now.items) ts ps c.loop-at.at c.loop-at-test.true c.loop-at.given.tokens.items c.loop-at.given.count
    d c.in-Some-closing.length (MOST_REPLACED - c.loop-at.given.count) (callee_some text c.in-Some.number c.callee.result _ c.callee.ensures.value c.in-Some.is c.in-Some.ensures.within)
    (at_rest ts ps (c.loop-at.at + 2) c.closing.result c.closing.ensures.value ∙ c.in-Some-closing.is) room none_here)

pub overflow_add-given : goal.overflow_add-given
overflow_add-given t c =
    let text = c.args.text.now in
    let ts = text.tokens.now in
    let ps = c.args.places.now in
    let number = c.in-Some.number in
    let d = inline_number text number in
    let m = c.in-Some-closing.length in
    let outer = c.args.active.now.items in
    let places = c.in-Some-2.replaced.items in
    let rep : IsReplaced text c.args.known outer number (words_of ts (take m (drop (c.loop-at.at + 2) ps))) (MOST_REPLACED - c.loop-at.given.count) places d =
    replaced_here text c.args.known outer c.deref.result.now number (c.loop-at.at + 2) m (MOST_REPLACED - c.loop-at.given.count) ps places d (c.deref.ensures.value ∙ c.loop-at.invariant.same)
    (some_of _ _ _ _ c.in-Some-2.is (c.in_ok-replaced-in-Some.ensures c.args.known d (number_is text number c.in-Some.ensures.within))) in
    let len : c.len.result ≡ length places = c.len.ensures ∙ c.in-Some-2.replaced.ok.0 in
    let few = rep.few in
    omega arith

pub read-requires : goal.read-requires
read-requires t c =
    let text = c.args.text.now in
    let ts = text.tokens.now in
    let ps = c.args.places.now in
    let number = c.in-Some.number in
    let d = inline_number text number in
    let m = c.in-Some-closing.length in
    let outer = c.args.active.now.items in
    let places = c.in-Some-2.replaced.items in
    let rep : IsReplaced text c.args.known outer number (words_of ts (take m (drop (c.loop-at.at + 2) ps))) (MOST_REPLACED - c.loop-at.given.count) places d =
    replaced_here text c.args.known outer c.deref.result.now number (c.loop-at.at + 2) m (MOST_REPLACED - c.loop-at.given.count) ps places d (c.deref.ensures.value ∙ c.loop-at.invariant.same)
    (some_of _ _ _ _ c.in-Some-2.is (c.in_ok-replaced-in-Some.ensures c.args.known d (number_is text number c.in-Some.ensures.within))) in
    let len : c.len.result ≡ length places = c.len.ensures ∙ c.in-Some-2.replaced.ok.0 in
    let room = rep.room in
    let few = rep.few in
    let pushed : c.push-in-Some.new.self.items ≡ outer ++ number ∷ [] = c.in_ok-push-in-Some.ensures.items ∙ ap (λ (a : List ℕ). a ++ number ∷ []) c.loop-at.invariant.same in
    let longer : length c.push-in-Some.new.self.items ≡ length outer + 1 = ap length pushed ∙ length_push outer number in
    let numbers : AreNumbers text c.push-in-Some.new.self.items = All-same (λ k. k < length text.definitions.now) c.push-in-Some.new.self.items (outer ++ number ∷ []) pushed (All-push (λ k. k < length text.definitions.now) outer number c.requires.numbers c.in-Some.ensures.within) in
    (search rules, (c.requires.text, (numbers, (omega arith, omega arith))))

pub returns-then-not-branch-clause-read : goal.returns-then-not-branch-clause-read
returns-then-not-branch-clause-read t c =
    let text = c.args.text.now in
    let ts = text.tokens.now in
    let ps = c.args.places.now in
    let number = c.in-Some.number in
    let d = inline_number text number in
    let m = c.in-Some-closing.length in
    let outer = c.args.active.now.items in
    let places = c.in-Some-2.replaced.items in
    let rep : IsReplaced text c.args.known outer number (words_of ts (take m (drop (c.loop-at.at + 2) ps))) (MOST_REPLACED - c.loop-at.given.count) places d =
    replaced_here text c.args.known outer c.deref.result.now number (c.loop-at.at + 2) m (MOST_REPLACED - c.loop-at.given.count) ps places d (c.deref.ensures.value ∙ c.loop-at.invariant.same)
    (some_of _ _ _ _ c.in-Some-2.is (c.in_ok-replaced-in-Some.ensures c.args.known d (number_is text number c.in-Some.ensures.within))) in
    let len : c.len.result ≡ length places = c.len.ensures ∙ c.in-Some-2.replaced.ok.0 in
    let call : call_within text c.args.known outer d (words_of ts (take m (drop (c.loop-at.at + 2) ps))) ≡ join_given (Some (record { tokens = []; count = c.len.result })) (read_within text c.args.known (outer ++ number ∷ []) places) =
    rep.is ∙ ap (λ (n : ℕ). join_given (Some (record { tokens = []; count = n })) (read_within text c.args.known (outer ++ number ∷ []) places)) (sym len) in
    let same : read_within text c.args.known c.push-in-Some.new.self.items c.deref-in-Some.result.now ≡ read_within text c.args.known (outer ++ number ∷ []) places =
    inner text c.args.known outer c.loop-at.active.items c.push-in-Some.new.self.items number places c.deref-in-Some.result.now c.loop-at.invariant.same c.in_ok-push-in-Some.ensures.items c.deref-in-Some.ensures.value in
    let here = callee_some text number c.callee.result _ c.callee.ensures.value c.in-Some.is c.in-Some.ensures.within in
    let closes = at_rest ts ps (c.loop-at.at + 2) c.closing.result c.closing.ensures.value ∙ c.in-Some-closing.is in
    let undone : c.in_ok-read-in-Some.field-0 ≡ false = search rules in
    let past = read_past _ _ _ _ undone c.in_ok-read-in-Some.ensures.read in
    past-along _ _ c.loop-at.invariant.here
    (past_inside (take c.args.known (inlines text)) (call_within text c.args.known outer) ts ps c.loop-at.at c.loop-at-test.true c.loop-at.given.tokens.items c.loop-at.given.count d m c.len.result (read_within text c.args.known (outer ++ number ∷ []) places) here closes call
    (past-along _ _ (ap (join_given (Some (record { tokens = c.loop-at.given.tokens.items; count = c.loop-at.given.count + c.len.result }))) same) past))

pub loop-at-preserved : goal.loop-at-preserved
loop-at-preserved t c =
    let text = c.args.text.now in
    let ts = text.tokens.now in
    let ps = c.args.places.now in
    let number = c.in-Some.number in
    let d = inline_number text number in
    let m = c.in-Some-closing.length in
    let outer = c.args.active.now.items in
    let places = c.in-Some-2.replaced.items in
    let rep : IsReplaced text c.args.known outer number (words_of ts (take m (drop (c.loop-at.at + 2) ps))) (MOST_REPLACED - c.loop-at.given.count) places d =
    replaced_here text c.args.known outer c.deref.result.now number (c.loop-at.at + 2) m (MOST_REPLACED - c.loop-at.given.count) ps places d (c.deref.ensures.value ∙ c.loop-at.invariant.same)
    (some_of _ _ _ _ c.in-Some-2.is (c.in_ok-replaced-in-Some.ensures c.args.known d (number_is text number c.in-Some.ensures.within))) in
    let len : c.len.result ≡ length places = c.len.ensures ∙ c.in-Some-2.replaced.ok.0 in
    let call : call_within text c.args.known outer d (words_of ts (take m (drop (c.loop-at.at + 2) ps))) ≡ join_given (Some (record { tokens = []; count = c.len.result })) (read_within text c.args.known (outer ++ number ∷ []) places) =
    rep.is ∙ ap (λ (n : ℕ). join_given (Some (record { tokens = []; count = n })) (read_within text c.args.known (outer ++ number ∷ []) places)) (sym len) in
    let same : read_within text c.args.known c.push-in-Some.new.self.items c.deref-in-Some.result.now ≡ read_within text c.args.known (outer ++ number ∷ []) places =
    inner text c.args.known outer c.loop-at.active.items c.push-in-Some.new.self.items number places c.deref-in-Some.result.now c.loop-at.invariant.same c.in_ok-push-in-Some.ensures.items c.deref-in-Some.ensures.value in
    let here = callee_some text number c.callee.result _ c.callee.ensures.value c.in-Some.is c.in-Some.ensures.within in
    let closes = at_rest ts ps (c.loop-at.at + 2) c.closing.result c.closing.ensures.value ∙ c.in-Some-closing.is in
    let done : c.in_ok-read-in-Some.field-0 ≡ true = search rules in
    let read = read_done _ _ _ _ done c.in_ok-read-in-Some.ensures.read in
    let result : join_given (Some (record { tokens = c.loop-at.given.tokens.items; count = c.loop-at.given.count + c.len.result })) (read_within text c.args.known (outer ++ number ∷ []) places) ≡ Some (record { tokens = c.read.new.given.tokens.items; count = c.read.new.given.count }) =
    ap (join_given (Some (record { tokens = c.loop-at.given.tokens.items; count = c.loop-at.given.count + c.len.result }))) (sym same) ∙ read.0 in
    let w : m < length ps - (c.loop-at.at + 2) = let v = simp (length-take, length-drop) at c.in-Some-closing.ensures.within in omega arith in
    record {
      same = popped outer c.loop-at.active.items c.push-in-Some.new.self.items c.read.new.active.items c.pop.new.self.items number c.read.new.active.len c.loop-at.invariant.same c.in_ok-push-in-Some.ensures.items (on_true _ _ done c.in_ok-read-in-Some.ensures.active) c.read.new.active.ok.0 c.pop.ensures.rest;
      here = after_call (take c.args.known (inlines text)) (call_within text c.args.known outer) ts ps c.loop-at.at c.loop-at-test.true c.loop-at.given.tokens.items c.loop-at.given.count d m c.len.result (read_within text c.args.known (outer ++ number ∷ []) places)
          (record { tokens = c.read.new.given.tokens.items; count = c.read.new.given.count }) here closes call result ∙ c.loop-at.invariant.here;
      few = read.1;
      within = omega arith;
    }

pub returns-clause-read : goal.returns-clause-read
returns-clause-read t c =
    let text = c.args.text.now in
    (read_all (take c.args.known (inlines text)) (call_within text c.args.known c.args.active.now.items) text.tokens.now c.args.places.now c.loop-at.at (record { tokens = c.loop-at.given.tokens.items; count = c.loop-at.given.count }) _ c.loop-at-test.false c.loop-at.invariant.here, c.loop-at.invariant.few)
