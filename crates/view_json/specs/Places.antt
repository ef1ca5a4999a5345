-- Where something stands among what was written last, and where one more goes.
use Rattle.std.specs.Prelude.{ℕ, ◌+◌, Bool, false, ltb, if◌then◌else◌, List, slice_get}
use Rattle.std.specs.Option.{option_map_or}

-- whether what stands at a place passes
abbrev pub passes_at : {X : Type 0} → (X → Bool) → List X → ℕ → Bool
passes_at test xs at = option_map_or test (slice_get xs at) false

-- how many are kept of so many that are to be written
abbrev pub most : ℕ → ℕ
most count = if ltb 64 count then 8 else 1

-- the place behind another, of so many: behind the last the first
abbrev pub place_behind : ℕ → ℕ → ℕ
place_behind at len = if ltb (at + 1) len then at + 1 else 0
