-- Declared names.
use Rattle.std.specs.Prelude.{ℕ, nat_eq, Bool, ◌&&◌, if◌then◌else◌, List, [], ◌∷◌, map, Option, Some, None}
use Rattle.std.specs.Str.{bytes_eq}
use Rattle.std.specs.Borrow.{Bor}
use Rattle.promela_model.specs.declared.thing.Thing.{Thing}

-- a name of an owner
pub record Entry : Type 0 where
  pub owner : ℕ
  pub name : List ℕ
  pub thing : Thing

abbrev pub entry : ℕ → List ℕ → Thing → Entry
entry o n t = record { owner = o; name = n; thing = t }

abbrev pub entry_of : ℕ × ((ℕ × Bor (List ℕ)) × Thing) → Entry
entry_of e = entry e.1.0.0 e.1.0.1.now e.1.1

abbrev pub entries_of : List (ℕ × ((ℕ × Bor (List ℕ)) × Thing)) → List Entry
entries_of es = map entry_of es

abbrev pub is_named : ℕ → List ℕ → Entry → Bool
is_named o n e = nat_eq o e.owner && bytes_eq n e.name

-- what a name of this owner stands for
abbrev pub found : List Entry → ℕ → List ℕ → Option Thing
found [] o n = None
found (e ∷ es) o n = if is_named o n e then Some e.thing else found es o n
