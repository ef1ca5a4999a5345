-- The values that the text of a printf takes, part by part.
use Rattle.std.specs.Prelude.{ℕ, ◌+◌, Option, Some, None}

-- n and those of a rest
abbrev pub with_rest : ℕ → Option ℕ → Option ℕ
with_rest n None = None
with_rest n (Some k) = Some (n + k)
