use Rattle.std.proofs.Common.{◌≡◌, suc, ◌-◌, ◌+◌, ◌∙◌, length, Option, sym, ap, arith}
use Rattle.pml_program.specs.declared.program.Slot.{Slot}
use Rattle.promela_run.specs.State.{last_field, leaf}
use Rattle.run_layout.specs.Tables.{field_by, slot_or}
use Rattle.run_layout.proofs.Leading.{ended, led}
use Rattle.run_layout.proofs.typedefs.Typedefs.leaf.Goals as goal

pub returns-in-None-clause-form : goal.returns-in-None-clause-form
returns-in-None-clause-form c =
    ended c.args.self.now (length c.args.self.now - c.loop-step._step) (field_by c.args.self.now c.args.slot.now c.loop-step.found) (leaf c.args.self.now c.args.slot.now c.args.cell) c.loop-step.form c.loop-step.cell _
    c.loop-step.invariant.form c.place-typedef.ensures.field c.in-None.ensures c.loop-step.invariant.same

pub loop-step-preserved : goal.loop-step-preserved
loop-step-preserved c =
    let ts = c.args.self.now in
    let z : length ts - c.loop-step._step ≡ suc (length ts - (c.loop-step._step + 1)) = omega arith in
    record {
      form = ap (λ (o : Option Slot). (slot_or c.args.slot.now o).form) c.in-Some.ensures;
      same = ap (λ (o : Option Slot). last_field ts (length ts - (c.loop-step._step + 1)) (slot_or c.args.slot.now o) c.remainder-cell-in-Some.result) (sym c.in-Some.ensures)
          ∙ led ts (length ts - c.loop-step._step) (length ts - (c.loop-step._step + 1)) (field_by ts c.args.slot.now c.loop-step.found) c.in-Some.field.now (leaf ts c.args.slot.now c.args.cell) c.loop-step.form c.loop-step.cell _ _ _ z
          c.loop-step.invariant.form c.place-typedef.ensures.field c.in-Some.ensures c.place-typedef.ensures.cell c.remainder-cell-in-Some.ensures c.loop-step.invariant.same;
    }
