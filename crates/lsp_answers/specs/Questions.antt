-- What a client asks of the names of a text, and what is answered (LSP 3.17).
use Rattle.std.specs.Prelude.{◌≡◌, ℕ, Bool, true, if◌then◌else◌, List, Option, Some, None, codes, string_bytes, option_and_then, option_map}
use Rattle.std.specs.Option.{option_map_or}
use Rattle.std.specs.Str.{bytes_eq}
use Rattle.serde_json.specs.Data.{Data, null}
use Rattle.serde_json.specs.Find.{get, as_bool}
use Rattle.text_parts.specs.declared.places.ColumnUnit as counting
use Rattle.text_parts.specs.Offsets.{offset_of}
use Rattle.model_names.specs.declared.names.TextNames.{TextNames}
use Rattle.model_names.specs.Told.{AreMeant}
use Rattle.model_names.specs.Found.{name_at}
use Rattle.lsp_results.specs.declared.page.Page.{Page}
use Rattle.lsp_results.specs.Asked.{place_in, text_in}
use Rattle.lsp_results.specs.Told.{IsDefinition, AreReferences, AreHighlights}
use Rattle.lsp_results.specs.Symbols.{symbols_of}
use Rattle.lsp_results.specs.Hover.{hover_of}
use Rattle.lsp_results.specs.Renames.{IsTarget, IsRename}
use Rattle.lsp_answers.specs.declared.documents.Document.{Document}
use Rattle.lsp_answers.specs.declared.questions.Question.{Question}
use Rattle.lsp_answers.specs.declared.questions.Question.TheVariants.{Definition, References, Highlights, Hover, Symbols, Target, Rename}

-- a question, if the method has this name
abbrev pub named : List ℕ → List ℕ → Question → Option Question → Option Question
named name method q rest = if bytes_eq method name then Some q else rest

-- the question that a method is
abbrev pub question_of : List ℕ → Option Question
question_of m =
    named (codes "textDocument/definition") m Definition (named (codes "textDocument/references") m References
    (named (codes "textDocument/documentHighlight") m Highlights (named (codes "textDocument/hover") m Hover
    (named (codes "textDocument/documentSymbol") m Symbols (named (codes "textDocument/prepareRename") m Target
    (named (codes "textDocument/rename") m Rename None))))))

-- the text of this name
abbrev pub is_named : List ℕ → Document → Bool
is_named uri d = bytes_eq (string_bytes d.uri) uri

-- the place of a text that a request asks of
abbrev pub offset_in : Page → Data → Option ℕ
offset_in page ps = option_map (λ p. offset_of page.unit p page.text.now) (option_and_then place_in (get (codes "position") ps))

-- a request asks of a declaration too, unless it says that it does not
abbrev pub has_declaration : Data → Bool
has_declaration ps = option_map_or (λ b. b) (option_and_then as_bool (option_and_then (get (codes "includeDeclaration")) (get (codes "context") ps))) true

-- what is told of the name at a place
abbrev pub IsTold : Question → Page → TextNames → Data → ℕ → Data → Type 0
IsTold Definition page names ps at d = IsDefinition page names (name_at names at) d
IsTold References page names ps at d = AreReferences page names (has_declaration ps) (name_at names at) d
IsTold Highlights page names ps at d = AreHighlights page names (name_at names at) d
IsTold Hover page names ps at d = d ≡ hover_of page names (name_at names at)
IsTold Target page names ps at d = IsTarget page names at d
IsTold q page names ps at d = d ≡ null

-- of the name at the place that a request names
pub record IsToldThere (q : Question) (page : Page) (names : TextNames) (ps d : Data) : Type 0 where
  pub at : ℕ
  pub is_asked : offset_in page ps ≡ Some at
  pub told : IsTold q page names ps at d

abbrev pub IsToldAt : Question → Page → TextNames → Data → Data → Type 0
IsToldAt Rename page names ps d = IsRename page (text_in (codes "newName") ps) d
IsToldAt q page names ps d = IsToldThere q page names ps d

-- of a text with these names
abbrev pub IsToldOf : Question → Page → TextNames → Data → Data → Type 0
IsToldOf Symbols page names ps d = d ≡ symbols_of page names
IsToldOf q page names ps d = IsToldAt q page names ps d

-- What is answered to a question on a text: by its names, and nothing where it has none.
pub data IsAnswer (q : Question) (page : Page) (m d : Data) : Type 0 where
  nothing : d ≡ null → IsAnswer q page m d
  by_names : (ps : Data) (names : TextNames) → get (codes "params") m ≡ Some ps
      → AreMeant page.text.now names.meant.items → IsToldOf q page names ps d → IsAnswer q page m d

-- A text that is open is asked of as its editor knows it.
pub record IsAnswerOn (q : Question) (d : Document) (u : counting.ColumnUnit) (m v : Data) : Type 0 where
  pub page : Page
  pub text_is : page.text.now ≡ d.known
  pub uri_is : page.uri.now ≡ string_bytes d.uri
  pub unit_is : page.unit ≡ u
  pub is_answer : IsAnswer q page m v
