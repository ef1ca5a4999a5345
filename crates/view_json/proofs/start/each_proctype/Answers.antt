use Rattle.std.proofs.Common.{◌∙◌, ◌++◌, ap, take}
use Rattle.std.specs.List.{flat_map}
use Rattle.pml_program.specs.declared.program.Proctype.{Proctype}
use Rattle.view_text.proofs.Writing.{item_more}
use Rattle.view_json.specs.Steps.{proctype}
use Rattle.view_json.proofs.Writing.{chain}
use Rattle.view_json.proofs.start.each_proctype.Goals as goal

pub loop-one-preserved : goal.loop-one-preserved
loop-one-preserved c =
    let qs = c.args.proctypes.now in
    let i = c.loop-one.one-index in
    let q : Proctype = c.one-item.result in
    chain _ _ _ _ _ _ c.loop-one.invariant c.proctype.ensures
    (ap (λ (x : Proctype). flat_map proctype (take i qs) ++ proctype x) c.one-item.is ∙ item_more proctype qs i q c.loop-one-test.true)
