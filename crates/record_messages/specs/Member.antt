-- A field of a typedef, as contracts see it.
use Rattle.std.specs.Prelude.{ℕ, List}

pub record Member : Type 0 where
  -- the name of the typedef, and the type and the name of the field; no name for what is no field of a plain type
  pub home : List ℕ
  pub word : List ℕ
  pub name : List ℕ
