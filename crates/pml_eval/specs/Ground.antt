-- What the ground shows of a channel.
use Rattle.std.specs.Prelude.{length}
use Rattle.pml_eval.specs.declared.ground.Filled.{Filled}
use Rattle.promela_process.specs.Expressions.{Filling}

abbrev pub shown : Filling → Filled
shown f = record { capacity = f.capacity; fields = f.fields; length = length f.messages }
