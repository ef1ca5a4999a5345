use Rattle.std.proofs.Common.{◌≡◌, ℕ, ◌<◌, ◌++◌, List, take, drop, length, arith, ap, ◌∙◌, subst}
use Rattle.std.specs.Prelude.{nat_lt}
use Rattle.std.proofs.lemmas.Bool.Decides.{nat_tests}
use Rattle.promela_text.specs.Tokens.{fresh_from}
use Rattle.prepare.specs.Coding.{is_coded, front_length, written}
use Rattle.prepare.proofs.Fronts.{reached_front, reached_end}
use Rattle.prepare.proofs.coding.coded.Goals as goal

pub loop-rest-preserved : goal.loop-rest-preserved
loop-rest-preserved c =
    let rest = c.loop-rest.rest.now in
    let fresh = c.loop-rest.fresh in
    let out = c.loop-rest.out.items in
    let e = c.loop-rest-test.ensures in
    let some : 0 < length rest = grind (arith, nat_tests) in
    let more : 0 < front_length fresh rest = subst (λ (n : ℕ). 0 < n) c.front_length.ensures.value c.front_length.ensures.some in
    let front : c.split_at.result.0.now ≡ take (front_length fresh rest) rest = c.split_at.ensures.front ∙ ap (λ (n : ℕ). take n rest) c.front_length.ensures.value in
    let back : c.split_at.result.1.now ≡ drop (front_length fresh rest) rest = c.split_at.ensures.back ∙ ap (λ (n : ℕ). drop n rest) c.front_length.ensures.value in
    let items : c.add_front.new.out.items ≡ out ++ written (is_coded rest) (take (front_length fresh rest) rest) = c.in_ok-add_front.ensures ∙ ap (λ (n : ℕ). out ++ written (nat_lt 0 n) c.split_at.result.0.now) c.character_length-is_character.ensures.value ∙ ap (λ (l : List ℕ). out ++ written (is_coded rest) l) front in
    let stale : c.fresh_behind-fresh.result ≡ fresh_from fresh (take (front_length fresh rest) rest) = c.fresh_behind-fresh.ensures ∙ ap (λ (l : List ℕ). fresh_from fresh l) front in
    rw (items, stale, back) (reached_front c.loop-rest.invariant some more)

pub returns : goal.returns
returns c =
    let e = c.loop-rest-test.ensures in
    reached_end c.loop-rest.invariant (grind (arith, nat_tests))
