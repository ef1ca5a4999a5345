-- Whose names may stand in a unit: declarations are in the order of units, and what one declares stands behind its name.
use Rattle.std.specs.Prelude.{ℕ, nat_eq, nat_le, Bool, ◌&&◌, if◌then◌else◌, List, [], ◌∷◌}
use Rattle.declared_names.specs.declared.declared.Declaration.{Declaration}

-- a global declaration from a place on
abbrev pub begins_at : ℕ → Declaration → Bool
begins_at head d = nat_eq d.owner 0 && nat_le head d.at

abbrev pub first_owner : List Declaration → ℕ
first_owner [] = 0
first_owner (d ∷ ds) = d.owner

-- whose it is that stands behind the first global one from a place on
abbrev pub owner_at : ℕ → List Declaration → ℕ
owner_at head [] = 0
owner_at head (d ∷ ds) = if begins_at head d then first_owner ds else owner_at head ds
