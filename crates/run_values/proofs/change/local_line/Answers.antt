use Rattle.std.proofs.Common.{rules, ◌≡◌, ◌++◌, ◌∙◌, ap, subst, append_assoc, slice_get, List, ℕ, ℤ, OnOk, FitsSigned, w32}
use Rattle.std.proofs.lemmas.Int.{to_z-of_z}
use Rattle.promela_run.specs.Lines.{place_line, heading_of}
use Rattle.run_values.proofs.change.local_line.Goals as goal

pub returns-clause-added : goal.returns-clause-added
returns-clause-added c =
    let place = place_line c.args.tables.now c.args.slot.now c.args.cell c.args.number in
    let heading = heading_of c.args.living.process (slice_get c.args.tables.now.proctypes c.args.living.sort) in
    let fits : FitsSigned w32 c.args.number = search rules in
    let same = to_z-of_z w32 c.args.number fits in
    subst (λ (l : List ℕ). OnOk c.place_line.result (c.place_line.new.text.items ≡ l))
    (ap (λ (v : ℤ). c.heading_of.new.text.items ++ place_line c.args.tables.now c.args.slot.now c.args.cell v) same ∙ ap (λ (x : List ℕ). x ++ place) c.in_ok-heading_of.ensures.added ∙ append_assoc c.args.text.now.items heading place)
    c.place_line.ensures.added
