-- A renamed text.
use Rattle.std.specs.Prelude.{◌≡◌, ℕ, ◌+◌, min, List, length}
use Rattle.declared_names.specs.declared.occurrence.Occurrence.{Occurrence}
use Rattle.model_names.specs.Told.{AreMeant}
use Rattle.model_verdicts.specs.Verdicts.{IsPlayed}
use Rattle.model_verdicts.specs.declared.renaming.Renaming.{Renaming}
use Rattle.model_verdicts.specs.Replaced.{part, replaced}
use Rattle.model_verdicts.specs.Alike.{AreMoved}

-- the bytes of a name; no place lies behind 2^64 - 1
abbrev pub name_in : List ℕ → Occurrence → List ℕ
name_in text o = part text o.at (min (o.at + o.length) 18446744073709551615)

-- the name stands at the places
abbrev pub IsReplaced : List ℕ → List ℕ → Renaming → Type 0
IsReplaced text name r = r.text.items ≡ replaced text r.length name 0 r.places.items

-- the renamed text has a model, and each of its names means what it meant
pub record IsValid (before : List Occurrence) (then : ℕ) (r : Renaming) : Type 0 where
  pub played : IsPlayed r.text.items
  pub names : List Occurrence
  pub are_meant : AreMeant r.text.items names
  pub moved : AreMoved r.places.items r.length then before names

-- Both texts have a model, one is the other but for the name at the places, and each name means what it meant.
pub record IsRenaming (text name : List ℕ) (r : Renaming) : Type 0 where
  pub played : IsPlayed text
  pub replaced : IsReplaced text name r
  pub before : List Occurrence
  pub are_meant : AreMeant text before
  pub valid : IsValid before (length name) r
