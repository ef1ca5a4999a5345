-- How often an inline declares a name, as contracts see it.
use Rattle.std.specs.Prelude.{ℕ, List}

pub record InlineCount : Type 0 where
  pub inline : List ℕ
  pub count : ℕ
