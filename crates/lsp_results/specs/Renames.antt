-- Renames as values of JSON (LSP 3.17).
use Rattle.std.specs.Prelude.{◌≡◌, ℕ, List, map, codes, Some}
use Rattle.serde_json.specs.Data.{Data, null, string, array, object, member, no_members}
use Rattle.serde_json.specs.View.{items_of}
use Rattle.declared_names.specs.declared.occurrence.Occurrence.{Occurrence}
use Rattle.model_names.specs.declared.names.TextNames.{TextNames}
use Rattle.model_names.specs.Found.{name_at}
use Rattle.model_verdicts.specs.declared.renaming.Renaming.{Renaming}
use Rattle.model_verdicts.specs.Renamed.{IsRenaming}
use Rattle.lsp_results.specs.declared.page.Page.{Page}
use Rattle.lsp_results.specs.Places.{range_of}

-- the name at a place that can be renamed is told by where it stands
pub data IsTarget (page : Page) (names : TextNames) (offset : ℕ) (d : Data) : Type 0 where
  is_none : d ≡ null → IsTarget page names offset d
  is_name : (o : Occurrence) → name_at names offset ≡ Some o → d ≡ range_of page o.length o.at → IsTarget page names offset d

-- another name in place of the n bytes behind so many others
abbrev pub edit_of : Page → ℕ → List ℕ → ℕ → Data
edit_of page n name at = object (member (codes "newText") (string name) (member (codes "range") (range_of page n at) no_members))

-- the edits of a text that make another of it
abbrev pub edits_of : Page → List ℕ → Renaming → Data
edits_of page name r =
    object (member (codes "changes")
    (object (member page.uri.now (array (items_of (map (edit_of page r.length name) r.places.items))) no_members)) no_members)

-- The edits of a renaming: both texts have a model, one is the other but for the name at the places, and each name means what it meant.
pub record IsRename (page : Page) (name : List ℕ) (d : Data) : Type 0 where
  pub renaming : Renaming
  pub is_renaming : IsRenaming page.text.now name renaming
  pub told : d ≡ edits_of page name renaming
