use Rattle.std.proofs.Common.{◌≡◌, ℕ, ◌+◌, ◌<◌, ◌≤◌, ◌++◌, List, take, drop, length, arith, ap, ◌∙◌, subst}
use Rattle.std.proofs.lemmas.Bool.Decides.{nat_tests}
use Rattle.prepare.specs.Standing.{Standing}
use Rattle.prepare.specs.Markers.{marker}
use Rattle.prepare.specs.Numbering.{placed, standing_behind, line_length, first_line, bare}
use Rattle.prepare.proofs.Lining.{reached_start, reached_line, reached_end, some_line}
use Rattle.prepare.proofs.numbering.numbered.Goals as goal

pub loop-standing-init : goal.loop-standing-init
loop-standing-init c =
    let short : length (bare c.args.text.now) ≤ 8388608 = subst (λ (xs : List ℕ). length xs ≤ 8388608) c.bare-rest.ensures.value (omega (arith, c.bare-rest.ensures.within)) in
    rw (c.new-out.ensures.items, c.start-standing.ensures, c.bare-rest.ensures.value) (reached_start c.args.text.now short)

pub loop-standing-preserved : goal.loop-standing-preserved
loop-standing-preserved c =
    let rest = c.loop-standing.rest.now in
    let s = c.loop-standing.standing in
    let out = c.loop-standing.out.items in
    let e = c.loop-standing-test.ensures in
    let some : 0 < length rest = grind (arith, nat_tests) in
    let line : c.split_at.result.0.now ≡ first_line rest = c.split_at.ensures.front ∙ ap (λ (n : ℕ). take n rest) c.line_length.ensures.value in
    let back : c.split_at.result.1.now ≡ drop (line_length rest) rest = c.split_at.ensures.back ∙ ap (λ (n : ℕ). drop n rest) c.line_length.ensures.value in
    let items : c.add.new.out.items ≡ out ++ placed s (marker (first_line rest)) (first_line rest) = c.in_ok-add.ensures ∙ ap (λ (l : List ℕ). out ++ placed s (marker l) l) line in
    let stands : c.behind-standing.result ≡ standing_behind s (marker (first_line rest)) (first_line rest) = c.behind-standing.ensures.value ∙ ap (λ (l : List ℕ). standing_behind s (marker l) l) line in
    let low : c.behind-standing.result.line + length c.split_at.result.1.now ≤ 9437185 = omega (arith, c.behind-standing.ensures.most, c.split_at.ensures.front_len, c.split_at.ensures.back_len, c.line_length.ensures.within) in
    let low' = subst (λ (x : Standing). x.line + length c.split_at.result.1.now ≤ 9437185) stands low in
    let low'' = subst (λ (xs : List ℕ). (standing_behind s (marker (first_line rest)) (first_line rest)).line + length xs ≤ 9437185) back low' in
    rw (items, stands, back) (reached_line c.loop-standing.invariant some low'')

pub loop-standing-smaller : goal.loop-standing-smaller
loop-standing-smaller c =
    let e = c.loop-standing-test.ensures in
    let some : 0 < length c.loop-standing.rest.now = grind (arith, nat_tests) in
    let more = some_line c.loop-standing.rest.now some in
    omega (arith, c.split_at.ensures.back_len, c.line_length.ensures.value, c.line_length.ensures.within)

pub returns : goal.returns
returns c =
    let e = c.loop-standing-test.ensures in
    reached_end c.loop-standing.invariant (grind (arith, nat_tests))
