-- What a client asks of the colours of a text, and what is answered (LSP 3.17, semantic tokens).
use Rattle.std.specs.Prelude.{◌≡◌, ℕ, if◌then◌else◌, List, length, Option, Some, None, codes, option_and_then}
use Rattle.std.specs.Str.{bytes_eq}
use Rattle.serde_json.specs.Data.{Data, null}
use Rattle.serde_json.specs.Find.{get}
use Rattle.text_parts.specs.declared.places.EditorPlace.{EditorPlace}
use Rattle.text_parts.specs.Offsets.{offset_of}
use Rattle.lsp_results.specs.declared.page.Page.{Page}
use Rattle.lsp_results.specs.Asked.{place_in}
use Rattle.lsp_results.specs.declared.colours.AskedPart.{AskedPart}
use Rattle.lsp_results.specs.Tokens.{AreColours}
use Rattle.lsp_answers.specs.declared.colours.AskedExtent.{AskedExtent}
use Rattle.lsp_answers.specs.declared.colours.AskedExtent.TheVariants.{Whole, Range}

-- how much of a text a method asks of
abbrev pub extent_of : List ℕ → Option AskedExtent
extent_of m =
    if bytes_eq m (codes "textDocument/semanticTokens/full") then Some Whole
    else if bytes_eq m (codes "textDocument/semanticTokens/range") then Some Range
    else None

abbrev pub whole : Page → AskedPart
whole page = record { from = 0; to = length page.text.now }

abbrev pub between : Page → Option EditorPlace → Option EditorPlace → Option AskedPart
between page (Some p) (Some q) = Some (record { from = offset_of page.unit p page.text.now; to = offset_of page.unit q page.text.now })
between page p q = None

-- the place of this name in an object
abbrev pub place_at : List ℕ → Data → Option EditorPlace
place_at name d = option_and_then place_in (get name d)

abbrev pub part_within : Page → Data → Option AskedPart
part_within page r = between page (place_at (codes "start") r) (place_at (codes "end") r)

-- the part of a text that a request names
abbrev pub part_in : Page → Data → Option AskedPart
part_in page ps = option_and_then (part_within page) (get (codes "range") ps)

-- the part that a request asks of
abbrev pub part_of : AskedExtent → Page → Data → Option AskedPart
part_of Whole page m = Some (whole page)
part_of Range page m = option_and_then (part_in page) (get (codes "params") m)

-- What is told: the colours of the part that is asked of, or nothing of a text that cannot be cut into tokens.
pub data AreTold (e : AskedExtent) (page : Page) (m d : Data) : Type 0 where
  nothing : d ≡ null → AreTold e page m d
  colours : (part : AskedPart) → part_of e page m ≡ Some part → AreColours page part d → AreTold e page m d
