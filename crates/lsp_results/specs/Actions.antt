-- What mends a refused text, as values of JSON (LSP 3.17, code actions).
use Rattle.std.specs.Prelude.{◌≡◌, ℕ, Bool, true, if◌then◌else◌, List, [], ◌∷◌, ◌++◌, codes}
use Rattle.std.specs.Str.{bytes_eq}
use Rattle.serde_json.specs.Data.{Data, boolean, string, array, no_items, item, object, member, no_members}
use Rattle.lsp_results.specs.declared.page.Page.{Page}
use Rattle.lsp_results.specs.Places.{range_of}
use Rattle.lsp_results.specs.Symbols.{text_shown}
use Rattle.model_verdicts.specs.declared.exchange.ExchangedPart.{ExchangedPart}
use Rattle.model_verdicts.specs.Exchanged.{words_of}
use Rattle.model_verdicts.specs.Better.{IsOffered}

-- what is written in place of a part of a text
abbrev pub written_at : Page → ExchangedPart → List ℕ
written_at page e = text_shown (words_of page.text.now e.words)

-- what an exchange does, in words
abbrev pub title_of : List ℕ → List ℕ
title_of [] = codes "leave it out"
title_of (b ∷ bs) = codes "write `" ++ ((b ∷ bs) ++ codes "`")

-- the edit of an exchange
abbrev pub edit_of : Page → ExchangedPart → Data
edit_of page e = object (member (codes "newText") (string (written_at page e)) (member (codes "range") (range_of page e.length e.at) no_members))

abbrev pub edits_of : Page → ExchangedPart → Data
edits_of page e = object (member (codes "changes") (object (member page.uri.now (array (item (edit_of page e) no_items)) no_members)) no_members)

-- an exchange, as an edit that is offered
abbrev pub action_of : Page → ExchangedPart → Data
action_of page e =
    object (member (codes "edit") (edits_of page e)
    (member (codes "isPreferred") (boolean true)
    (member (codes "kind") (string (codes "quickfix"))
    (member (codes "title") (string (title_of (written_at page e))) no_members))))

-- Nothing, or what mends the text, or the text without a body in which a refusal lies.
pub data AreActions (page : Page) (d : Data) : Type 0 where
  nothing : d ≡ array no_items → AreActions page d
  one : (e : ExchangedPart) → IsOffered e page.text.now → d ≡ array (item (action_of page e) no_items) → AreActions page d
