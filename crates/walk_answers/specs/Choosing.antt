-- How a run goes on.
use Rattle.std.specs.Prelude.{ℕ, ◌≤◌, Option, Some, None}
use Rattle.walk_answers.specs.declared.choosing.FollowingMove.{FollowingMove}
use Rattle.walk_answers.specs.declared.choosing.FollowingMove.TheVariants.{Take, Stop}

-- the number of one of so many moves, from 1
abbrev pub IsNumber : ℕ → Option ℕ → Type 0
IsNumber n None = Unit {0}
IsNumber n (Some k) = (1 ≤ k) × (k ≤ n)

-- what is taken is one of so many moves
abbrev pub IsOfMoves : ℕ → FollowingMove → Type 0
IsOfMoves n (Take k) = (1 ≤ k) × (k ≤ n)
IsOfMoves n (Stop why) = Unit {0}
