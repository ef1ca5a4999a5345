-- What the tables of the code say of marks.
use Rattle.std.specs.Prelude.{◌≡◌, ℕ, List, Option}
use Rattle.std.specs.Option.{option_or}
use Rattle.promela_model.specs.declared.mark.What.{What}
use Rattle.promela_model.specs.declared.mark.Mark.{Mark}
use Rattle.check_names.specs.declared.places.Places.{Places}
use Rattle.check_names.specs.Places.{IsKept, stands}
use Rattle.check_names.specs.Entry.{Entry, found}
use Rattle.declared_names.specs.Sites.{Sites, sites, labels, owned}
use Rattle.declared_names.specs.Meant.{Known}
use Rattle.declared_names.specs.declared.meant.KnownNames as code

abbrev pub sites_of : Places ℕ → Sites
sites_of ps o n = stands ps.numbers ps.places o n

-- what the tables say is known
abbrev pub told : List Entry → Places ℕ → Known
told es ps = record { names = found es; sites = sites_of ps }

-- the same of what the code looks names up in
abbrev pub told_in : code.KnownNames → Known
told_in k = told k.table.now k.sites.now

-- the places are those where marks declare names
pub record AreSites (ms : List Mark) (ps : Places ℕ) : Type 0 where
  pub kept : IsKept ps.numbers ps.places
  pub same : (o : ℕ) (n : List ℕ) → sites_of ps o n ≡ sites ms o n

-- the places are those of labels
pub record AreLabels (ms : List Mark) (ps : Places ℕ) : Type 0 where
  pub kept : IsKept ps.numbers ps.places
  pub same : (o : ℕ) (n : List ℕ) → sites_of ps o n ≡ labels ms o n

-- behind a mark of an owner: what was there, and else what the mark adds
abbrev pub Adds : (old new : Sites) → ℕ → (List ℕ → Option ℕ) → Type 0
Adds old new owner more = (o : ℕ) (n : List ℕ) → new o n ≡ option_or (old o n) (owned owner o (more n))
