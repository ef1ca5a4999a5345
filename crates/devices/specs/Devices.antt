-- What contracts see of the devices.
use Rattle.std.specs.Prelude.{ℕ, List, Bool, Option}

-- a reader, whether its end was seen, and the count of failures
pub record Reading (R : Type 0) : Type 0 where
  pub reader : R
  pub ended : Bool
  pub failures : ℕ

-- a writer, and the count of failures
pub record Writing (W : Type 0) : Type 0 where
  pub writer : W
  pub failures : ℕ

-- bytes in memory, and the count of failures
pub record Kept : Type 0 where
  pub bytes : List ℕ
  pub failures : ℕ

-- a device, and the calls before the one that fails, or `None` once it has failed
pub record Failing (D : Type 0) : Type 0 where
  pub device : D
  pub before : Option ℕ
