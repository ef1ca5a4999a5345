use Rattle.std.proofs.Common.{rules, ◌≡◌, ◌∷◌, ◌++◌, ◌∙◌, ap, sym, append_assoc, slice_get, List, ℕ, ℤ, FitsSigned, w32}
use Rattle.std.proofs.lemmas.Int.{to_z-of_z}
use Rattle.std.proofs.lemmas.Map.Iter.{rest_more}
use Rattle.std.specs.Map.Iter.{deref_pair}
use Rattle.run_values.specs.declared.changed.Change.{Change}
use Rattle.run_values.specs.Written.{if_changed, each_write}
use Rattle.run_values.specs.Placed.{changed_at}
use Rattle.run_values.proofs.changed.changes_of_writes.Goals as goal

pub loop-at-preserved : goal.loop-at-preserved
loop-at-preserved c =
    let p = c.args.tables.now in
    let ks = c.args.sorts.now in
    let cells = c.args.cells.now in
    let w : ℕ × ℤ = (c.in-Some.at.now, c.in-Some.before.now) in
    let rest = c.next.new.self in
    let more : c.loop-at.at-iterator ≡ w ∷ rest = rest_more deref_pair c.loop-at.at-iterator rest c.next.result (c.in-Some.at, c.in-Some.before) c.in-Some.is c.next.ensures.steps in
    let fits : FitsSigned w32 w.1 = search rules in
    ap (λ (l : List Change). l ++ each_write (changed_at p ks) cells rest) c.in_ok-add_change.ensures
    ∙ ap (λ (v : ℤ). (c.loop-at.changes.items ++ if_changed (changed_at p ks) (w.0, v) (slice_get cells w.0)) ++ each_write (changed_at p ks) cells rest) (to_z-of_z w32 w.1 fits)
    ∙ append_assoc c.loop-at.changes.items (if_changed (changed_at p ks) w (slice_get cells w.0)) (each_write (changed_at p ks) cells rest)
    ∙ ap (λ (es : List (ℕ × ℤ)). c.loop-at.changes.items ++ each_write (changed_at p ks) cells es) (sym more)
    ∙ c.loop-at.invariant
