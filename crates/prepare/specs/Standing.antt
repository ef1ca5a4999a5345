-- Where the next line goes, as contracts see it: without where bytes lie in memory.
use Rattle.std.specs.Prelude.{ℕ, Bool, List}

pub record Standing : Type 0 where
  -- whether a marker has named the model's own file, and its name
  pub is_named : Bool
  pub own : List ℕ
  -- whether the lines are those of that file
  pub is_own : Bool
  -- the line that is written to
  pub line : ℕ
