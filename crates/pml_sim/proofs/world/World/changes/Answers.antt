use Rattle.std.proofs.Common.{rules, ◌≡◌, ap, sym, subst, List, IfOk}
use Rattle.run_values.specs.declared.changed.Change.{Change}
use Rattle.promela_run.specs.World.{Running}
use Rattle.pml_sim.proofs.Stepping.{are_declared, changes_are}
use Rattle.pml_sim.proofs.world.World.changes.Goals as goal

pub returns : goal.returns
returns c =
    let live = c.self.inside.live in
    let found =
    changes_are c.args.self.now live c.sorts-sorts.result.now c.variables.result.now c.self.inside.older c.min-count.result (ap (λ (w : Running). w.state) (sym c.self.view_is))
    (ap (λ (w : Running). w.past) (sym c.self.view_is)) c.sorts-sorts.ensures.value c.variables.ensures.frames c.variables.ensures.past (search rules) c.sorts-sorts.ensures.declared in
    let declared =
    are_declared live c.tables.result.now c.sorts-sorts.result.now c.variables.result.now c.min-count.result c.tables.ensures c.sorts-sorts.ensures.value c.variables.ensures.frames c.sorts-sorts.ensures.declared in
    subst (λ (l : List Change). IfOk c.logged_changes.result (λ found. found.items ≡ l)) found (c.logged_changes.ensures declared)
