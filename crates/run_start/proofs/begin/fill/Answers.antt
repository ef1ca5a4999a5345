use Rattle.std.proofs.Common.{rules, FitsSigned, w32}
use Rattle.std.proofs.lemmas.Int.{to_z-of_z}
use Rattle.run_start.specs.Shown.{shown}
use Rattle.run_start.proofs.Shapes.{cell_there, keeps-then}
use Rattle.run_start.proofs.Stepping.{values_made}
use Rattle.run_start.proofs.begin.fill.Goals as goal

pub store_number-requires : goal.store_number-requires
store_number-requires c = cell_there _ _ _ _ _ c.loop-cell.invariant.keeps c.requires c.loop-cell-test.true

pub loop-cell-preserved : goal.loop-cell-preserved
loop-cell-preserved c =
    let f : FitsSigned w32 c.args.number = search rules in
    let n = to_z-of_z w32 c.args.number f in
    let before = rw n at c.loop-cell.invariant.same in
    let now = rw n at c.in_ok-store_number.ensures.value in
    rw n (record {
      same = values_made c.args.variable c.args.number c.loop-cell.cell c.args.cells (shown c.loop-cell.started) (shown c.store_number.new.started) _ c.loop-cell-test.true before now;
      keeps = keeps-then _ _ _ c.loop-cell.invariant.keeps c.in_ok-store_number.ensures.keeps;
    })
