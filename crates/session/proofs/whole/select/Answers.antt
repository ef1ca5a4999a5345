use Rattle.session.proofs.Turns.{select_one, select_many}
use Rattle.session.proofs.whole.select.Goals as goal

pub returns-then-moves-eq1-clause-part : goal.returns-then-moves-eq1-clause-part
returns-then-moves-eq1-clause-part g c steps = select_one c.args.notes g.M.Machine.rules c.args.machine.now c.args.moves.now c.args.stream.now c.if-moves-eq1.true

pub returns-clause-part : goal.returns-clause-part
returns-clause-part g c = select_many c.args.notes g.M.Machine.rules c.args.machine.now _ _ c.args.moves.now c.args.stream.now c.choose.new.stream c.choose.result c.requires.some c.if-moves-eq1.false c.choose.ensures.part
