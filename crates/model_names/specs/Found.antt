-- What is found among the names of a text.
use Rattle.std.specs.Prelude.{ℕ, ◌+◌, nat_eq, nat_le, Bool, true, false, ◌&&◌, if◌then◌else◌, List, [], ◌∷◌, Option, find}
use Rattle.std.specs.Option.{option_or}
use Rattle.std.specs.List.{Contains}
use Rattle.std.specs.List.Sorted.{IsStrictlyIncreasing}
use Rattle.declared_names.specs.declared.occurrence.Occurrence.{Occurrence}
use Rattle.declared_names.specs.declared.declared.Declaration.{Declaration}
use Rattle.declared_names.specs.declared.declared.Stands.{Stands}
use Rattle.declared_names.specs.declared.declared.Stands.TheVariants.{Label}
use Rattle.model_names.specs.declared.names.TextNames.{TextNames}

-- the name touches the place
abbrev pub touches : ℕ → Occurrence → Bool
touches offset o = nat_le o.at offset && nat_le offset (o.at + o.length)

-- the name that touches a place: the first one, those of inlines and their parameters before others
abbrev pub name_at : TextNames → ℕ → Option Occurrence
name_at names offset = option_or (find (touches offset) names.inlines.meant.items) (find (touches offset) names.meant.items)

-- where those stand that mean a declaration
abbrev pub places_in : ℕ → List Occurrence → List ℕ
places_in d [] = []
places_in d (o ∷ os) = if nat_eq o.declared d then o.at ∷ places_in d os else places_in d os

-- the declarations that those at a place mean
abbrev pub declared_in : ℕ → List Occurrence → List ℕ
declared_in a [] = []
declared_in a (o ∷ os) = if nat_eq o.at a then o.declared ∷ declared_in a os else declared_in a os

-- the same numbers, each once, the least first
pub record IsOrdered (xs ys : List ℕ) : Type 0 where
  pub rises : IsStrictlyIncreasing ys
  pub keeps : (x : ℕ) → Contains xs x → Contains ys x
  pub adds_none : (x : ℕ) → Contains ys x → Contains xs x

abbrev pub is_label : Stands → Bool
is_label Label = true
is_label s = false

-- a label that is declared there
abbrev pub is_label_there : ℕ → Declaration → Bool
is_label_there at d = nat_eq d.at at && is_label d.stands
