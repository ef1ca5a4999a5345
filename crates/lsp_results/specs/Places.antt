-- Places of a text as values of JSON (LSP 3.17).
use Rattle.std.specs.Prelude.{ℕ, ◌+◌, ◌-◌, min, List, length, codes}
use Rattle.serde_json.specs.Data.{Data, number, unsigned, string, object, member, no_members}
use Rattle.source_lines.specs.Places.{number_at}
use Rattle.text_parts.specs.declared.places.EditorPlace.{EditorPlace}
use Rattle.text_parts.specs.Columns.{units, front_on_line}
use Rattle.lsp_results.specs.declared.page.Page.{Page}

-- the line and the column of what stands behind so many bytes
abbrev pub place_at : Page → ℕ → EditorPlace
place_at page at = record { line = number_at page.text.now at - 1; column = units page.unit (front_on_line page.text.now at) }

-- where so many bytes behind so many others end, which is nowhere behind the text
abbrev pub end_of : Page → ℕ → ℕ → ℕ
end_of page at n = min (at + n) (length page.text.now)

abbrev pub point_of : EditorPlace → Data
point_of p = object (member (codes "character") (number (unsigned p.column)) (member (codes "line") (number (unsigned p.line)) no_members))

-- a part of a text: n bytes behind so many others
abbrev pub range_of : Page → ℕ → ℕ → Data
range_of page n at =
    object (member (codes "end") (point_of (place_at page (end_of page at n))) (member (codes "start") (point_of (place_at page at)) no_members))

-- with the text's name
abbrev pub location_of : Page → ℕ → ℕ → Data
location_of page n at = object (member (codes "range") (range_of page n at) (member (codes "uri") (string page.uri.now) no_members))

-- to be marked
abbrev pub mark_of : Page → ℕ → ℕ → Data
mark_of page n at = object (member (codes "range") (range_of page n at) no_members)
