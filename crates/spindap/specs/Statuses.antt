-- The statuses with which the adapter ends where the client has not ended it.
use Rattle.std.specs.Prelude.{ℕ}
use Rattle.spindap.specs.declared.stop.AdapterEnd.{AdapterEnd}
use Rattle.spindap.specs.declared.stop.AdapterEnd.TheVariants.{Ended, Head, Device, Memory}

-- 1 where the input ended, 2 where a message has no head, and 6 where a device or memory failed
abbrev pub status : AdapterEnd → ℕ
status Ended = 1
status Head = 2
status Device = 6
status Memory = 6
