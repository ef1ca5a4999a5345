-- Names of files, as `#include` gives them.
use Rattle.std.specs.Prelude.{ℕ, ◌==◌, Bool, false, if◌then◌else◌, List, [], ◌∷◌, ◌++◌}
use Rattle.std.specs.Str.{bytes_eq}

-- a name that begins at the root
abbrev pub is_whole : List ℕ → Bool
is_whole [] = false
is_whole (b ∷ t) = b == 47

-- a name in a folder
abbrev pub within : List ℕ → List ℕ → List ℕ
within folder name = folder ++ (47 ∷ name)

-- the name by which a file is found that is called so: the model's own has another
abbrev pub found_by : List ℕ → List ℕ → List ℕ → List ℕ
found_by own called name = if bytes_eq name called then own else name
