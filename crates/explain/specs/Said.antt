-- What a message keeps while more is said.
use Rattle.std.specs.Prelude.{◌≡◌, ℕ, List, Some, slice_get}

-- each byte that was said stands where it stood
abbrev pub Keeps : List ℕ → List ℕ → Type 0
Keeps old new = (k b : ℕ) → slice_get old k ≡ Some b → slice_get new k ≡ Some b
