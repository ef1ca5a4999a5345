use Rattle.std.proofs.Common.{◌≡◌, ◌++◌, subst, List, ℕ, OnOk}
use Rattle.run_values.proofs.Flat.{lines_flat}
use Rattle.run_values.proofs.change.value_lines.Goals as goal

pub returns-clause-added : goal.returns-clause-added
returns-clause-added c = λ b a h k.
    subst (λ (l : List ℕ). OnOk c.lines_of_cells.result (c.lines_of_cells.new.text.items ≡ c.args.text.now.items ++ l))
    (lines_flat c.args.tables.now c.args.sorts.now b a c.args.before.now c.args.after.now c.args.wanted.globals c.args.wanted.locals h k)
    c.lines_of_cells.ensures.added
