-- The parts of a model that an editor folds, as values of JSON (LSP 3.17, folding ranges).
use Rattle.std.specs.Prelude.{◌≡◌, ℕ, ◌-◌, nat_lt, Bool, ◌&&◌, List, [], map, filter, codes}
use Rattle.serde_json.specs.Data.{Data, number, unsigned, array, object, member, no_members}
use Rattle.serde_json.specs.View.{items_of}
use Rattle.pml_token.specs.Word.{Word}
use Rattle.explain_tokens.specs.Placed.{ArePlaced}
use Rattle.lsp_results.specs.declared.page.Page.{Page}
use Rattle.lsp_results.specs.Places.{place_at}
use Rattle.text_parts.specs.declared.folds.Fold.{Fold}
use Rattle.text_parts.specs.Folds.{folds}
use Rattle.lsp_results.specs.declared.folds.FoldedLines.{FoldedLines}

-- the lines of what opens a part and of what closes it
abbrev pub lines_of : Page → Fold → FoldedLines
lines_of page f = record { start = (place_at page f.from).line; end = (place_at page f.to).line }

-- a line stands between them
abbrev pub is_long : FoldedLines → Bool
is_long l = nat_lt l.start l.end && nat_lt 1 (l.end - l.start)

-- a part that is folded up to the line before what closes it
abbrev pub told_of : FoldedLines → Data
told_of l = object (member (codes "endLine") (number (unsigned (l.end - 1))) (member (codes "startLine") (number (unsigned l.start)) no_members))

-- The parts of the tokens that a text is cut into, between which a line stands.
pub record AreFolds (page : Page) (d : Data) : Type 0 where
  pub tokens : List Word
  pub placed : ArePlaced page.text.now tokens
  pub told : d ≡ array (items_of (map told_of (filter is_long (map (lines_of page) (folds [] tokens)))))
