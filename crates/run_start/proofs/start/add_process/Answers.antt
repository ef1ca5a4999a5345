use Rattle.std.proofs.Common.{◌≡◌, ◌++◌, ◌∷◌, [], map, length, ap, sym, ◌∙◌, rules, refl, List, ◌<◌}
use Rattle.pml_program.specs.declared.program.Slot.{Slot}
use Rattle.pml_program.specs.declared.program.Proctype.{Proctype}
use Rattle.promela_run.specs.State.{size, variables_at}
use Rattle.run_start.specs.Shown.{shape}
use Rattle.run_start.proofs.Shapes.{OnOk-then}
use Rattle.run_start.proofs.Bounding.{room_for}
use Rattle.run_start.proofs.Carrying.{process_carried}
use Rattle.run_start.proofs.Declaring.{declared_next, variables_at_is}
use Rattle.run_start.proofs.start.add_process.Goals as goal

pub returns-clause-declared : goal.returns-clause-declared
returns-clause-declared c =
    let k : c.begin_frame.new.started.sorts.items ≡ c.args.started.now.sorts.items ++ c.args.sort ∷ [] = search rules in
    let is = rw c.as_slice.ensures at c.index-as_slice-sort.is in
    let v : c.as_slice-variables.result.now ≡ variables_at c.args.program.now c.args.sort =
    c.as_slice-variables.ensures ∙ ap (λ (x : Proctype). x.variables) (sym c.index-as_slice-sort.is) ∙ sym (variables_at_is c.args.program.now c.args.sort c.index-as_slice-sort.result c.requires.there is) in
    let few : length c.args.started.now.sorts.items < 255 = search rules in
    OnOk-then c.begin_frame.result
    (λ e. declared_next c.args.program.now c.args.started.now.store.frames c.begin_frame.new.started.store.frames c.args.started.now.sorts.items c.begin_frame.new.started.sorts.items c.args.sort c.requires.declared few c.requires.there (e ∙ ap (λ (x : List Slot). shape c.args.started.now.store.frames ++ map size x ∷ []) v) k)
    c.begin_frame.ensures.sizes

pub begin_frame-requires-clause-room : goal.begin_frame-requires-clause-room
begin_frame-requires-clause-room c =
    let is = rw c.as_slice.ensures at c.index-as_slice-sort.is in
    let v : c.as_slice-variables.result.now ≡ variables_at c.args.program.now c.args.sort =
    c.as_slice-variables.ensures ∙ ap (λ (x : Proctype). x.variables) (sym c.index-as_slice-sort.is) ∙ sym (variables_at_is c.args.program.now c.args.sort c.index-as_slice-sort.result c.requires.there is) in
    let few : length c.args.started.now.sorts.items < 255 = search rules in
    rw v (room_for c.args.program.now c.args.started.now.store.frames c.args.started.now.sorts.items c.args.sort _ c.requires.declared few c.requires.most)

pub returns-clause-value : goal.returns-clause-value
returns-clause-value c =
    let is = rw c.as_slice.ensures at c.index-as_slice-sort.is in
    let v : c.as_slice-variables.result.now ≡ variables_at c.args.program.now c.args.sort =
    c.as_slice-variables.ensures ∙ ap (λ (x : Proctype). x.variables) (sym c.index-as_slice-sort.is) ∙ sym (variables_at_is c.args.program.now c.args.sort c.index-as_slice-sort.result c.requires.there is) in
    let few : length c.args.started.now.sorts.items < 255 = search rules in
    process_carried c.args.program.now c.args.sort c.args.beginnings.now.typedefs c.as_slice-variables.result.now c.args.started.now (record c.args.started.now { sorts = c.push.new.self }) c.begin_frame.new.started c.begin_frame.result few c.requires.known v
    refl refl (search rules) c.begin_frame.ensures.sorts c.begin_frame.ensures.value
