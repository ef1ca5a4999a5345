-- Coloured tokens as values of JSON (LSP 3.17, semantic tokens).
use Rattle.std.specs.Prelude.{◌≡◌, ℕ, List, length, map, codes, Option, IfSome}
use Rattle.serde_json.specs.Data.{Data, number, unsigned, array, object, member, no_members}
use Rattle.serde_json.specs.View.{items_of}
use Rattle.pml_token.specs.Word.{Word}
use Rattle.explain_tokens.specs.Placed.{ArePlaced}
use Rattle.model_names.specs.declared.names.TextNames.{TextNames}
use Rattle.model_names.specs.Told.{AreMeant}
use Rattle.lsp_results.specs.declared.page.Page.{Page}
use Rattle.text_parts.specs.Coded.{coded}
use Rattle.lsp_results.specs.declared.colours.AskedPart.{AskedPart}
use Rattle.lsp_results.specs.Cells.{cells_by}
use Rattle.lsp_results.specs.Colours.{coloured_in}

abbrev pub number_told : ℕ → Data
number_told n = number (unsigned n)

abbrev pub numbers_of : List ℕ → Data
numbers_of ns = array (items_of (map number_told ns))

-- the coloured tokens of a part of the text, each behind the one before
abbrev pub told_of : Page → Option TextNames → AskedPart → List Word → Data
told_of page names part ws =
    object (member (codes "data") (numbers_of (coded page.unit page.text.now 0 (coloured_in (cells_by (length page.text.now) names) part ws))) no_members)

-- What the tokens are that begin in a part of a text: those that it is cut into, by its names, if it has some.
pub record AreColours (page : Page) (part : AskedPart) (d : Data) : Type 0 where
  pub tokens : List Word
  pub names : Option TextNames
  pub placed : ArePlaced page.text.now tokens
  pub meant : IfSome names (λ n. AreMeant page.text.now n.meant.items)
  pub told : d ≡ told_of page names part tokens
