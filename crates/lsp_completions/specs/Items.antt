-- What may be typed, as values of JSON (LSP 3.17, completion).
use Rattle.std.specs.Prelude.{◌≡◌, ℕ, nat_eq, Bool, List, ◌++◌, map, filter, codes}
use Rattle.std.specs.List.{starts_with}
use Rattle.serde_json.specs.Data.{Data, number, unsigned, string, object, member, no_members}
use Rattle.declared_names.specs.declared.declared.Declaration.{Declaration}
use Rattle.lsp_results.specs.declared.sorts.DeclaredSort.{DeclaredSort}
use Rattle.lsp_results.specs.declared.sorts.DeclaredSort.TheVariants.{Variable, Field, Constant, Typedef, Proctype, Label, Inline, Parameter}
use Rattle.lsp_results.specs.Sorts.{sort_in, words_of}
use Rattle.lsp_results.specs.Symbols.{text_shown}
use Rattle.offered_names.specs.declared.asked.Fitting.{Fitting}
use Rattle.offered_names.specs.declared.asked.Fitting.TheVariants.{Message}
use Rattle.offered_names.specs.Offers.{name_of}

-- the number of what is most like it (LSP 3.17, `CompletionItemKind`)
abbrev pub kind_of : DeclaredSort → ℕ
kind_of Variable = 6
kind_of Parameter = 6
kind_of Field = 5
kind_of Constant = 20
kind_of Typedef = 22
kind_of Proctype = 7
kind_of Inline = 3
kind_of Label = 18

-- where a message stands, mtype names come first
abbrev pub rank_of : Fitting → DeclaredSort → List ℕ
rank_of Message Constant = codes "0"
rank_of a s = codes "1"

-- a declared name, with what it is
abbrev pub item_of : List ℕ → List Declaration → Fitting → Declaration → Data
item_of text ds a d =
    object (member (codes "detail") (string (words_of (sort_in ds d)))
    (member (codes "kind") (number (unsigned (kind_of (sort_in ds d))))
    (member (codes "label") (string (text_shown (name_of text d)))
    (member (codes "sortText") (string (rank_of a (sort_in ds d) ++ text_shown (name_of text d))) no_members))))

-- a word of the language
abbrev pub word_of : List ℕ → Data
word_of w =
    object (member (codes "kind") (number (unsigned 14))
    (member (codes "label") (string w)
    (member (codes "sortText") (string (codes "2" ++ w)) no_members)))

-- a word begins as typed
abbrev pub begins_so : List ℕ → List ℕ → Bool
begins_so typed w = starts_with nat_eq w typed

-- words of the language that begin as typed
pub record AreWords (typed : List ℕ) (ds : List Data) : Type 0 where
  pub words : List (List ℕ)
  pub are : ds ≡ map word_of (filter (begins_so typed) words)
