use Rattle.flat_code.proofs.Standing.{asks}
use Rattle.flat_code.proofs.make.code_in.Goals as goal

pub returns-in_ok-value-in-Holds : goal.returns-in_ok-value-in-Holds
returns-in_ok-value-in-Holds c = rw c.in-Holds.is (asks c.args.globals.now c.args.locals.now c.in-Holds.value c.in_ok-value-in-Holds.value c.in_ok-value-in-Holds.ensures)
