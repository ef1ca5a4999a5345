use Rattle.std.proofs.Common.{◌≡◌, ◌<◌, ◌≤◌, ℕ, List, length, arith}
use Rattle.spinprep_program.proofs.Given.{whole}
use Rattle.spinprep_program.proofs.over.text_over.Goals as goal

pub returns-clause-read : goal.returns-clause-read
returns-clause-read g c =
    let text : List ℕ = c.in-Ok.text.items in
    let less : length text < 8388609 = omega arith in
    whole (g.R.Read.remaining c.args.reader) 8388609 text less c.in-Ok.ensures
