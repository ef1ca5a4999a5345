use Rattle.std.proofs.Common.{◌≡◌, ◌∙◌, ap, subst, List, ℕ, ℤ, IfOk}
use Rattle.pml_store.specs.Writing.{joined}
use Rattle.run_values.specs.declared.changed.Change.{Change}
use Rattle.run_values.specs.Written.{oldest, each_write}
use Rattle.run_values.specs.Placed.{changed_at}
use Rattle.run_values.proofs.Undoing.{changes_written}
use Rattle.run_values.proofs.changed.logged_changes.Goals as goal

pub returns : goal.returns
returns c = λ a.
    let p = c.args.tables.now in
    let ks = c.args.sorts.now in
    let now = c.args.store.now in
    let cells : c.as_slice.result.now ≡ joined now.frames = c.as_slice.ensures.value ∙ c.cells.ensures.value in
    let writes : c.in_ok-writes.writes.entries ≡ oldest now.written = c.in_ok-writes.ensures ∙ ap oldest c.written.ensures in
    subst (λ (l : List Change). IfOk c.changes_of_writes.result (λ changes. changes.items ≡ l))
    (ap (λ (xs : List ℤ). each_write (changed_at p ks) xs c.in_ok-writes.writes.entries) cells ∙ ap (λ (ws : List (ℕ × ℤ)). each_write (changed_at p ks) (joined now.frames) ws) writes
    ∙ changes_written p ks now a)
    c.changes_of_writes.ensures
