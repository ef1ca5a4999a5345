use Rattle.std.proofs.Common.{rules, ◌≡◌, ◌++◌, ap, sym, subst, List, ℕ, OnOk}
use Rattle.promela_run.specs.World.{Running}
use Rattle.pml_sim.proofs.Stepping.{lines_are, are_declared}
use Rattle.pml_sim.proofs.world.World.add_values.Goals as goal

pub returns-clause-added : goal.returns-clause-added
returns-clause-added c =
    let live = c.self.inside.live in
    let lines =
    lines_are c.args.self.now live c.tables.result.now c.sorts-sorts.result.now c.variables.result.now c.self.inside.older c.min-older.result c.args.wanted.globals c.args.wanted.locals (ap (λ (w : Running). w.state) (sym c.self.view_is))
    (ap (λ (w : Running). w.past) (sym c.self.view_is)) c.tables.ensures c.sorts-sorts.ensures.value c.variables.ensures.frames c.variables.ensures.past (search rules) in
    let declared =
    are_declared live c.tables.result.now c.sorts-sorts.result.now c.variables.result.now c.min-older.result c.tables.ensures c.sorts-sorts.ensures.value c.variables.ensures.frames c.sorts-sorts.ensures.declared in
    subst (λ (l : List ℕ). OnOk c.logged_lines.result (c.logged_lines.new.text.items ≡ c.args.text.now.items ++ l)) lines (c.logged_lines.ensures.added declared)
