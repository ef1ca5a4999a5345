use Rattle.std.proofs.Common.{◌<◌, List, length, take, is_ok, true, arith, sym, ap, ◌∙◌, subst}
use Rattle.std.proofs.ResultArms.{chosen}
use Rattle.std.proofs.lemmas.Bool.Decides.{nat_tests}
use Rattle.pml_token.specs.Word.{Word}
use Rattle.pml_lex.proofs.Longest.{IsNext, IsNextAt}
use Rattle.pml_lex.proofs.Steps.{same_word}
use Rattle.pml_lex.proofs.Scan.{next_is}
use Rattle.explain_tokens.proofs.Reaching.{Reached, reached_start, reached_end, reached_none, reached_token, reached_skipped}
use Rattle.explain_tokens.proofs.tokens.placed.Goals as goal
use Rattle.explain_tokens.proofs.tokens.placed.Goals.{In-Some}

pub returns-in_default-clause-err : goal.returns-in_default-clause-err
returns-in_default-clause-err c =
    let e = c.loop-rest-test.ensures in
    let some : 0 < length c.loop-rest.rest.now = grind (arith, nat_tests) in
    reached_none c.loop-rest.invariant some (subst (IsNext c.loop-rest.fresh c.loop-rest.rest.now) (sym c.next.ensures.value ∙ c.in_default.is) (next_is c.loop-rest.fresh c.loop-rest.rest.now some))

-- what the scan answered is the longest lexeme
found : (c : In-Some) → IsNextAt c.loop-rest.fresh c.loop-rest.rest.now c.in-Some.length c.in-Some.lexeme
found c =
    let e = c.loop-rest-test.ensures in
    let some : 0 < length c.loop-rest.rest.now = grind (arith, nat_tests) in
    subst (IsNext c.loop-rest.fresh c.loop-rest.rest.now) (sym c.next.ensures.value ∙ c.in-Some.is) (next_is c.loop-rest.fresh c.loop-rest.rest.now some)

pub loop-rest-init : goal.loop-rest-init
loop-rest-init c = subst (λ (ts : List Word). Reached c.args.text.now ts c.args.text.now 0 true) (sym c.new-tokens.ensures.items) (reached_start c.args.text.now)

pub loop-rest-smaller-in_ok-push-in-Token : goal.loop-rest-smaller-in_ok-push-in-Token
loop-rest-smaller-in_ok-push-in-Token c =
    let at = found (goal.at.loop-rest-smaller-in_ok-push-in-Token c).In-Some in
    omega (arith, at.some, c.split_at.ensures.back_len)

pub loop-rest-preserved-in_ok-push-in-Token : goal.loop-rest-preserved-in_ok-push-in-Token
loop-rest-preserved-in_ok-push-in-Token c =
    let rest = c.loop-rest.rest.now in
    let at = subst (λ s. IsNextAt c.loop-rest.fresh rest c.in-Some.length s) c.in-Token.is (found (goal.at.loop-rest-preserved-in_ok-push-in-Token c).In-Some) in
    let items = chosen _ _ _ _ c.push.ensures.items (ap is_ok c.in_ok-push-in-Token.was) ∙ same_word c.loop-rest.tokens.items c.in-Token.kind _ (take c.in-Some.length rest) c.loop-rest.place c.new.result c.new.ensures c.split_at.ensures.front in
    rw (items, c.split_at.ensures.back) (reached_token c.in-Some.length c.in-Token.kind c.loop-rest.invariant at)

pub loop-rest-smaller : goal.loop-rest-smaller
loop-rest-smaller c =
    let at = found (goal.at.loop-rest-smaller c).In-Some in
    omega (arith, at.some, c.split_at.ensures.back_len)

pub loop-rest-preserved : goal.loop-rest-preserved
loop-rest-preserved c =
    let rest = c.loop-rest.rest.now in
    let at = subst (λ s. IsNextAt c.loop-rest.fresh rest c.in-Some.length s) c.in-Skipped.is (found (goal.at.loop-rest-preserved c).In-Some) in
    rw (c.split_at.ensures.back, c.fresh_behind-fresh.ensures, c.split_at.ensures.front) (reached_skipped c.in-Some.length c.loop-rest.invariant at)

pub returns-clause-ok : goal.returns-clause-ok
returns-clause-ok c =
    let e = c.loop-rest-test.ensures in
    reached_end c.loop-rest.invariant (grind (arith, nat_tests))
