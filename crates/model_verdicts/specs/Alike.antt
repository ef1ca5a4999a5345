-- The names of two texts, where one is the other with names of another length at some places.
use Rattle.std.specs.Prelude.{◌≡◌, ℕ, ◌+◌, ◌*◌, nat_lt, List, [], ◌∷◌, count_by}
use Rattle.declared_names.specs.declared.occurrence.Occurrence.{Occurrence}

-- what stood at one place stands at the other then: each exchanged name before it has so many bytes more or fewer
abbrev pub IsMoved : List ℕ → ℕ → ℕ → ℕ → ℕ → Type 0
IsMoved places old new from to =
    from + count_by (λ p. nat_lt p from) places * new ≡ to + count_by (λ p. nat_lt p from) places * old

-- a name and its declaration
pub record IsMovedName (places : List ℕ) (old new : ℕ) (o p : Occurrence) : Type 0 where
  pub at : IsMoved places old new o.at p.at
  pub declared : IsMoved places old new o.declared p.declared

-- each name means what it meant
abbrev pub AreMoved : List ℕ → ℕ → ℕ → List Occurrence → List Occurrence → Type 0
AreMoved places old new [] [] = Unit {0}
AreMoved places old new (o ∷ os) (p ∷ ps) = IsMovedName places old new o p × AreMoved places old new os ps
AreMoved places old new _ _ = ⊥
