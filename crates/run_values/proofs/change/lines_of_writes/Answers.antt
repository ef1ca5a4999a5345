use Rattle.std.proofs.Common.{rules, ◌≡◌, ◌∷◌, ◌++◌, ◌∙◌, ap, sym, append_assoc, slice_get, List, ℕ, ℤ, FitsSigned, w32}
use Rattle.std.proofs.lemmas.Int.{to_z-of_z}
use Rattle.std.proofs.lemmas.Map.Iter.{rest_more}
use Rattle.std.specs.Map.Iter.{deref_pair}
use Rattle.promela_run.specs.Lines.{owners}
use Rattle.run_values.specs.Written.{line_at, if_changed, each_write}
use Rattle.run_values.proofs.Keeping.{front, behind}
use Rattle.run_values.proofs.change.lines_of_writes.Goals as goal

pub loop-at-preserved : goal.loop-at-preserved
loop-at-preserved c =
    let f = line_at c.args.tables.now (owners c.args.tables.now c.args.wanted.globals c.args.wanted.locals c.args.sorts.now) in
    let cells = c.args.cells.now in
    let w : ℕ × ℤ = (c.in-Some.at.now, c.in-Some.before.now) in
    let rest = c.next.new.self in
    let more : c.loop-at.at-iterator ≡ w ∷ rest = rest_more deref_pair c.loop-at.at-iterator rest c.next.result (c.in-Some.at, c.in-Some.before) c.in-Some.is c.next.ensures.steps in
    let fits : FitsSigned w32 w.1 = search rules in
    record {
      same = ap (λ (l : List ℕ). l ++ each_write f cells rest) c.in_ok-line_of_write.ensures.added
          ∙ ap (λ (v : ℤ). (c.loop-at.text.items ++ if_changed f (w.0, v) (slice_get cells w.0)) ++ each_write f cells rest) (to_z-of_z w32 w.1 fits)
          ∙ append_assoc c.loop-at.text.items (if_changed f w (slice_get cells w.0)) (each_write f cells rest)
          ∙ ap (λ (es : List (ℕ × ℤ)). c.loop-at.text.items ++ each_write f cells es) (sym more)
          ∙ c.loop-at.invariant.same;
      kept = behind c.line_of_write.new.text.items c.loop-at.text.items c.args.text.now.items (simp (c.in_ok-line_of_write.ensures.added, front)) c.loop-at.invariant.kept;
    }
