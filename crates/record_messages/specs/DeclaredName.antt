-- A name that is declared, as contracts see it.
use Rattle.std.specs.Prelude.{ℕ, List}

pub record DeclaredName : Type 0 where
  pub name : List ℕ
  -- its type; nothing for an array and for a parameter of an inline
  pub word : List ℕ
