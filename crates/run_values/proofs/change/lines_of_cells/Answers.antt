use Rattle.std.proofs.Common.{rules, to_z, of_z, FitsSigned, w32, ◌++◌, ◌∙◌, ap, sym, append_assoc, append-nil, List, ℕ, ℤ, pos, arith, ◌+◌, drop, get_or, if◌then◌else◌, []}
use Rattle.std.proofs.lemmas.Int.{to_z-of_z}
use Rattle.std.specs.Ordering.{int_eq}
use Rattle.promela_run.specs.Lines.{owners, each_change}
use Rattle.run_values.specs.Written.{line_at}
use Rattle.run_values.proofs.Keeping.{front, behind}
use Rattle.run_values.proofs.Seeking.{cells-more, cells-end}
use Rattle.run_values.proofs.change.lines_of_cells.Goals as goal

pub loop-at-preserved : goal.loop-at-preserved
loop-at-preserved c =
    let f = line_at c.args.tables.now (owners c.args.tables.now c.args.wanted.globals c.args.wanted.locals c.args.sorts.now) in
    let k = c.loop-at.at in
    let more = cells-more f c.args.before.now c.args.after.now k (omega arith) (omega arith) in
    let rest = each_change f (k + 1) (drop (k + 1) c.args.before.now) (drop (k + 1) c.args.after.now) in
    let one : ℤ → ℤ → List ℕ = λ x y. (if int_eq x y then [] else f k y) in
    let before = get_or c.args.before.now k (pos 0) in
    let after = get_or c.args.after.now k (pos 0) in
    let fits_before : FitsSigned w32 before = search rules in
    let fits_after : FitsSigned w32 after = search rules in
    record {
      same = ap (λ (x : List ℕ). x ++ rest) c.in_ok-line_of_change.ensures.added
          ∙ ap (λ (x : ℤ). (c.loop-at.text.items ++ one x (to_z w32 (of_z w32 after))) ++ rest) (to_z-of_z w32 before fits_before)
          ∙ ap (λ (x : ℤ). (c.loop-at.text.items ++ one before x) ++ rest) (to_z-of_z w32 after fits_after)
          ∙ append_assoc c.loop-at.text.items (one before after) rest
          ∙ ap (λ (x : List ℕ). c.loop-at.text.items ++ x) (sym more)
          ∙ c.loop-at.invariant.same;
      kept = behind c.line_of_change.new.text.items c.loop-at.text.items c.args.text.now.items (simp (c.in_ok-line_of_change.ensures.added, front)) c.loop-at.invariant.kept;
    }

pub returns-clause-added : goal.returns-clause-added
returns-clause-added c =
    let f = line_at c.args.tables.now (owners c.args.tables.now c.args.wanted.globals c.args.wanted.locals c.args.sorts.now) in
    let none = cells-end f c.args.before.now c.args.after.now c.loop-at.at (omega (arith, c.min-count.ensures)) in
    sym (append-nil c.loop-at.text.items) ∙ ap (λ (x : List ℕ). c.loop-at.text.items ++ x) (sym none) ∙ c.loop-at.invariant.same
