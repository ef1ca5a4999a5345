-- The channels that cells begin with.
use Rattle.std.specs.Prelude.{ℕ}
use Rattle.promela_run.specs.declared.beginning.Beginning.{Beginning}
use Rattle.promela_run.specs.declared.beginning.Beginning.TheVariants.{Channel}

-- the same where it is known before what the cell begins with
abbrev pub channels_at : Beginning → ℕ
channels_at Channel = 1
channels_at _ = 0
