use Rattle.std.proofs.Common.{arith}
use Rattle.check_names.proofs.Totalling.{constants-le}
use Rattle.check_names.proofs.names.Names.declare.Goals as goal

pub thing-thing-requires-clause-room : goal.thing-thing-requires-clause-room
thing-thing-requires-clause-room c = omega (arith, constants-le c.args.self.now.table, c.requires.totalled.constants)
