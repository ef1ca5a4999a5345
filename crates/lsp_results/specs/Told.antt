-- What an editor is told of the places of names, as values of JSON (LSP 3.17).
use Rattle.std.specs.Prelude.{◌≡◌, ℕ, nat_eq, Bool, not, ◌||◌, List, ◌++◌, map, filter, Option, Some, None}
use Rattle.serde_json.specs.Data.{Data, null, array}
use Rattle.serde_json.specs.View.{items_of}
use Rattle.declared_names.specs.declared.occurrence.Occurrence.{Occurrence}
use Rattle.model_names.specs.declared.names.TextNames.{TextNames}
use Rattle.model_names.specs.Found.{declared_in, places_in, IsOrdered}
use Rattle.lsp_results.specs.declared.page.Page.{Page}
use Rattle.lsp_results.specs.Places.{location_of, mark_of}

-- what the names at a place mean
abbrev pub meant_there : TextNames → ℕ → List ℕ
meant_there names at = declared_in at names.inlines.meant.items ++ declared_in at names.meant.items

-- where the names stand that mean a declaration
abbrev pub uses_of : TextNames → ℕ → List ℕ
uses_of names d = places_in d names.inlines.meant.items ++ places_in d names.meant.items

-- these places are told so, each once, in the order of the text, or those of them that are kept
pub record AreTold (tell : ℕ → Data) (kept : List ℕ → List ℕ) (places : List ℕ) (d : Data) : Type 0 where
  pub ordered : List ℕ
  pub is_ordered : IsOrdered places ordered
  pub told : d ≡ array (items_of (map tell (kept ordered)))

-- all places are kept
abbrev pub all_kept : List ℕ → List ℕ
all_kept places = places

-- any place, or any but that of the declaration
abbrev pub is_asked : Bool → ℕ → ℕ → Bool
is_asked with_declaration declared at = with_declaration || not (nat_eq at declared)

-- where the name at a place is declared
abbrev pub IsDefinition : Page → TextNames → Option Occurrence → Data → Type 0
IsDefinition page names None d = d ≡ null
IsDefinition page names (Some o) d = AreTold (location_of page o.length) all_kept (meant_there names o.at) d

-- where the names stand that mean the same as one
abbrev pub AreReferences : Page → TextNames → Bool → Option Occurrence → Data → Type 0
AreReferences page names with_declaration None d = d ≡ null
AreReferences page names with_declaration (Some o) d =
    AreTold (location_of page o.length) (filter (is_asked with_declaration o.declared)) (uses_of names o.declared) d

-- the same, to be marked
abbrev pub AreHighlights : Page → TextNames → Option Occurrence → Data → Type 0
AreHighlights page names None d = d ≡ null
AreHighlights page names (Some o) d = AreTold (mark_of page o.length) all_kept (uses_of names o.declared) d
