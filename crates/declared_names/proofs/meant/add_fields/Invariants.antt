use Rattle.std.proofs.Common.{◌≡◌, ◌++◌, drop}
use Rattle.declared_names.specs.Meant.{fields}
use Rattle.declared_names.specs.Tables.{told}
use Rattle.declared_names.proofs.meant.add_fields.Given as goal

abbrev pub invariant-loop-step : goal.invariant-loop-step
invariant-loop-step l =
    l.out.items ++ fields (told l.here.table.now l.here.sites.now) l.form (drop l.step-index l.steps)
    ≡ l.fn.out.items ++ fields (told l.here.table.now l.here.sites.now) l.fn.form l.steps
