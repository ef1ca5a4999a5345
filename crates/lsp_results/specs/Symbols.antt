-- What a text declares, as a value of JSON (LSP 3.17).
use Rattle.std.specs.Prelude.{ℕ, ◌-◌, if◌then◌else◌, List, [], ◌++◌, take, drop, map, codes}
use Rattle.std.specs.Str.{is_utf8}
use Rattle.serde_json.specs.Data.{Data, number, unsigned, string, array, object, member, no_members}
use Rattle.serde_json.specs.View.{items_of}
use Rattle.declared_names.specs.declared.declared.Declaration.{Declaration}
use Rattle.model_names.specs.declared.names.TextNames.{TextNames}
use Rattle.lsp_results.specs.declared.page.Page.{Page}
use Rattle.lsp_results.specs.Places.{end_of, location_of}
use Rattle.lsp_results.specs.Sorts.{number_of, sort_in}

-- bytes as a text, which is empty where they are no UTF-8
abbrev pub text_shown : List ℕ → List ℕ
text_shown bs = if is_utf8 bs then bs else []

-- the name that is declared
abbrev pub name_of : Page → Declaration → List ℕ
name_of page d = text_shown (take (end_of page d.at d.length - d.at) (drop d.at page.text.now))

-- a declaration, with its name, what it is, and where it stands
abbrev pub symbol_of : Page → List Declaration → Declaration → Data
symbol_of page ds d =
    object (member (codes "kind") (number (unsigned (number_of (sort_in ds d))))
    (member (codes "location") (location_of page d.length d.at) (member (codes "name") (string (name_of page d)) no_members)))

-- all declarations, those of inlines last
abbrev pub symbols_of : Page → TextNames → Data
symbols_of page names =
    array (items_of (map (symbol_of page names.declarations.items) (names.declarations.items ++ names.inlines.declarations.items)))
