-- What is shown of a name, as a value of JSON (LSP 3.17).
use Rattle.std.specs.Prelude.{ℕ, List, ◌++◌, Option, Some, None, codes, decimal}
use Rattle.std.specs.Option.{option_map_or}
use Rattle.serde_json.specs.Data.{Data, null, string, object, member, no_members}
use Rattle.source_lines.specs.Places.{number_at, line_at}
use Rattle.declared_names.specs.declared.occurrence.Occurrence.{Occurrence}
use Rattle.model_names.specs.declared.names.TextNames.{TextNames}
use Rattle.lsp_results.specs.declared.page.Page.{Page}
use Rattle.lsp_results.specs.Places.{range_of}
use Rattle.lsp_results.specs.Sorts as sorts
use Rattle.lsp_results.specs.Symbols.{text_shown}

-- what the name is that is declared at a place
abbrev pub sort_words : TextNames → ℕ → List ℕ
sort_words names at = option_map_or sorts.words_of (sorts.sort_at names at) (codes "name")

-- the line of the declaration, what the name is, and the line's number
abbrev pub words_of : Page → TextNames → Occurrence → List ℕ
words_of page names o =
    codes "```promela\n" ++ text_shown (line_at page.text.now o.declared) ++ codes "\n```\n"
    ++ sort_words names o.declared ++ codes ", line " ++ decimal (number_at page.text.now o.declared)

-- what is shown of a name, and of none
abbrev pub hover_of : Page → TextNames → Option Occurrence → Data
hover_of page names None = null
hover_of page names (Some o) =
    object (member (codes "contents")
    (object (member (codes "kind") (string (codes "markdown")) (member (codes "value") (string (words_of page names o)) no_members)))
    (member (codes "range") (range_of page o.length o.at) no_members))
