-- Moves that are added to others.
use Rattle.std.specs.Prelude.{◌≡◌, List, ◌++◌}
use Rattle.promela_run.specs.declared.moves.Move.{Move}

-- what was there, perhaps with more behind it
pub record Extends (new old : List Move) : Type 0 where
  pub more : List Move
  pub is : new ≡ old ++ more
