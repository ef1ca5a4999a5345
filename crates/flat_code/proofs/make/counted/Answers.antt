use Rattle.std.proofs.Common.{rules, FitsSigned, w16}
use Rattle.std.proofs.lemmas.Int.{to_z-of_z}
use Rattle.flat_code.proofs.Standing.{counts}
use Rattle.flat_code.proofs.make.counted.Goals as goal

pub returns : goal.returns
returns c =
    let f : FitsSigned w16 c.args.by = search rules in
    rw (c.held.ensures, to_z-of_z w16 c.args.by f) (counts c.args.globals.now c.args.locals.now c.args.target.now c.args.by c.in_ok-word.word c.in_ok-word.cell c.in_ok-word.ensures)
