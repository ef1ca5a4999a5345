use Rattle.std.proofs.Common.{rules, ◌≡◌, ◌∷◌, ◌-◌, ◌<◌, ◌∙◌, suc, ap, sym, length, drop, drop-cons, get_or, List, ℕ, ℤ, pos, arith, FitsSigned, w32}
use Rattle.std.proofs.lemmas.Int.{to_z-of_z}
use Rattle.std.specs.Ordering.{nat_cmp}
use Rattle.std.specs.BTreeMap.{insert_entry}
use Rattle.run_values.specs.Written.{oldest}
use Rattle.run_values.proofs.change.oldest.Goals as goal

pub loop-left-preserved : goal.loop-left-preserved
loop-left-preserved c =
    let m = c.loop-left.left - 1 in
    let ws = c.args.written.now in
    let d : ℕ × ℤ = (0, pos 0) in
    let w = get_or ws m d in
    let e : c.loop-left.left ≡ suc m = omega arith in
    let h : m < length ws = omega arith in
    let fits : FitsSigned w32 w.1 = search rules in
    record {
      within = omega arith;
      same = c.in_ok-insert.ensures.entries
          ∙ ap (λ (v : ℤ). insert_entry nat_cmp c.loop-left.numbers.entries w.0 v) (to_z-of_z w32 w.1 fits)
          ∙ ap (λ (es : List (ℕ × ℤ)). insert_entry nat_cmp es w.0 w.1) c.loop-left.invariant.same
          ∙ ap (λ (n : ℕ). oldest (w ∷ drop n ws)) e
          ∙ ap oldest (sym (drop-cons ws m d h));
    }
