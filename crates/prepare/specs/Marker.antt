-- A marker as contracts see it: without where its bytes lie in memory.
use Rattle.std.specs.Prelude.{ℕ, List}

pub record Marker : Type 0 where
  pub line : ℕ
  pub file : List ℕ
