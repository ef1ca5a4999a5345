use Rattle.std.proofs.Common.{rules, FitsSigned, w32}
use Rattle.std.proofs.lemmas.Int.{to_z-of_z}
use Rattle.flat_code.proofs.Widening.{wide_counts}
use Rattle.flat_code.proofs.wide_make.wide_counted.Goals as goal

pub returns : goal.returns
returns c =
    let f : FitsSigned w32 c.args.by = search rules in
    rw (to_z-of_z w32 c.args.by f) (wide_counts c.args.globals.now c.args.locals.now c.args.target.now c.args.by c.in_ok-word.word c.in_ok-word.cell c.in_ok-word.ensures)
