use Rattle.std.proofs.Common.{◌≡◌, ◌++◌, ◌∙◌, ap, subst, List, ℕ, ℤ, OnOk}
use Rattle.pml_store.specs.Writing.{joined}
use Rattle.promela_run.specs.Lines.{owners}
use Rattle.run_values.specs.Written.{line_at, oldest, each_write}
use Rattle.run_values.proofs.Undoing.{writes_flat}
use Rattle.run_values.proofs.change.written_lines.Goals as goal

pub returns-clause-added : goal.returns-clause-added
returns-clause-added c = λ a.
    let f = line_at c.args.tables.now (owners c.args.tables.now c.args.wanted.globals c.args.wanted.locals c.args.sorts.now) in
    let now = c.args.store.now in
    let cells : c.as_slice.result.now ≡ joined now.frames = c.as_slice.ensures.value ∙ c.cells.ensures.value in
    let writes : c.in_ok-writes.writes.entries ≡ oldest now.written = c.in_ok-writes.ensures ∙ ap oldest c.written.ensures in
    subst (λ (l : List ℕ). OnOk c.lines_of_writes.result (c.lines_of_writes.new.text.items ≡ c.args.text.now.items ++ l))
    (ap (λ (xs : List ℤ). each_write f xs c.in_ok-writes.writes.entries) cells ∙ ap (λ (ws : List (ℕ × ℤ)). each_write f (joined now.frames) ws) writes
    ∙ writes_flat c.args.tables.now c.args.sorts.now now c.args.wanted.globals c.args.wanted.locals a)
    c.lines_of_writes.ensures.added
