-- What a receive does, by what it says.
use Rattle.std.specs.Prelude.{List, Result}
use Rattle.diagnostics.specs.declared.fault.Fault.{Fault}
use Rattle.promela_process.specs.Expressions.{Reading}
use Rattle.promela_run.specs.declared.live_channel.LiveChannel.{LiveChannel}
use Rattle.pml_value.specs.declared.receive.Reception.{Reception}
use Rattle.promela_run.specs.Statements.{Received, received}

abbrev pub received_by : List LiveChannel → Reading → Reception → Result Received Fault
received_by cs r x = received cs r x.target.now x.search x.removal x.wants.now
