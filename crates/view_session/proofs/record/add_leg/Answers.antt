use Rattle.std.proofs.Common.{codes, arith}
use Rattle.std.specs.Fmt.{decimal}
use Rattle.std.proofs.lemmas.Bool.{lt-ltb}
use Rattle.view_session.proofs.Recording.{chain, several_line}
use Rattle.view_session.proofs.record.add_leg.Goals as goal

pub returns-then-leg-gt1 : goal.returns-then-leg-gt1
returns-then-leg-gt1 c =
    chain _ _ _ (decimal c.args.leg.choice) (codes "\n") _ c.number.ensures c.add.ensures (several_line c.args.leg (lt-ltb 1 c.args.leg.of c.if-leg-gt1.true) (omega arith))
