-- Words for laws over the definitions.
use Rattle.std.specs.Prelude.{◌≡◌, ℕ, List, ◌++◌}

-- these bytes stand nowhere in a text
abbrev pub NotIn : List ℕ → List ℕ → Type 0
NotIn part text = (front back : List ℕ) → text ≡ front ++ (part ++ back) → ⊥
