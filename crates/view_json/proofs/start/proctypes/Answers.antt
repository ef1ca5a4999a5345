use Rattle.std.proofs.Common.{◌≡◌, ◌∙◌, ap, subst, List}
use Rattle.std.specs.List.{flat_map}
use Rattle.pml_program.specs.declared.program.Proctype.{Proctype}
use Rattle.pml_program.specs.declared.program.Program.{Program}
use Rattle.view_tokens.specs.Printed.{Writes}
use Rattle.view_json.specs.Steps.{proctype}
use Rattle.view_json.proofs.Writing.{chained}
use Rattle.view_json.proofs.start.proctypes.Goals as goal

pub returns : goal.returns
returns c =
    let same : c.as_slice.result.now ≡ c.args.live.now.state.program.proctypes = c.as_slice.ensures ∙ ap (λ (pr : Program). pr.proctypes) c.program.ensures in
    chained _ _ _ _ _ c.key.ensures
    (chained _ _ _ _ _ c.begin_array.ensures
    (chained _ _ _ _ _ (subst (λ (qs : List Proctype). Writes c.begin_array.new.self c.each_proctype.new.json (flat_map proctype qs)) same c.each_proctype.ensures)
    c.end_array.ensures))
