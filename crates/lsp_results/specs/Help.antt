-- What a called proctype or inline takes, as a value of JSON (LSP 3.17, signature help).
use Rattle.std.specs.Prelude.{◌≡◌, ℕ, ◌-◌, List, take, drop, map, codes, Option, Some, None}
use Rattle.std.specs.Option.{option_map_or}
use Rattle.serde_json.specs.Data.{Data, null, number, unsigned, string, array, no_items, item, object, member, no_members}
use Rattle.serde_json.specs.View.{items_of}
use Rattle.pml_token.specs.Word.{Word}
use Rattle.pml_lex.specs.declared.fault.LexError.{LexError}
use Rattle.explain_tokens.specs.Placed.{ArePlaced, IsUnplaced}
use Rattle.text_parts.specs.declared.places.ColumnUnit.TheVariants.{Utf16}
use Rattle.text_parts.specs.Columns.{units}
use Rattle.lsp_results.specs.declared.page.Page.{Page}
use Rattle.lsp_results.specs.Places.{end_of}
use Rattle.lsp_results.specs.Symbols.{text_shown}
use Rattle.text_parts.specs.declared.calls.PartialCall.{PartialCall}
use Rattle.text_parts.specs.declared.definitions.TextPart.{TextPart}
use Rattle.text_parts.specs.Calls.{call_around}
use Rattle.text_parts.specs.Definitions.{word_of, definition, heading, parameters}

-- the bytes from one place to another
abbrev pub between : Page → ℕ → ℕ → List ℕ
between page from to = take (to - from) (drop from page.text.now)

-- the name that is called
abbrev pub name_in : Page → PartialCall → List ℕ
name_in page c = between page c.at (end_of page c.at c.length)

abbrev pub text_in : Page → TextPart → List ℕ
text_in page p = text_shown (between page p.from p.to)

abbrev pub units_to : Page → ℕ → ℕ → ℕ
units_to page from to = units Utf16 (between page from to)

-- a parameter: how many units of UTF-16 of a heading stand before it, and before its end
abbrev pub parameter_of : Page → TextPart → TextPart → Data
parameter_of page h p =
    object (member (codes "label") (array (item (number (unsigned (units_to page h.from p.from)))
    (item (number (unsigned (units_to page h.from p.to))) no_items))) no_members)

abbrev pub signature_of : Page → List TextPart → TextPart → Data
signature_of page ps h =
    object (member (codes "label") (string (text_in page h))
    (member (codes "parameters") (array (items_of (map (parameter_of page h) ps))) no_members))

-- a heading as it stands in the text, with its parameters, and the number of the one that is being written
abbrev pub help_of : Page → ℕ → List TextPart → TextPart → Data
help_of page n ps h =
    object (member (codes "activeParameter") (number (unsigned n))
    (member (codes "activeSignature") (number (unsigned 0))
    (member (codes "signatures") (array (item (signature_of page ps h) no_items)) no_members)))

-- of the definition that begins these tokens; nothing, if it has no heading
abbrev pub help_by : Page → ℕ → List Word → Data
help_by page n ws = option_map_or (help_of page n (parameters ws)) (heading ws) null

-- of what is called: nothing, if the text cannot be cut into tokens
pub data IsOfCall (page : Page) (c : PartialCall) (d : Data) : Type 0 where
  uncut : (why : LexError) → IsUnplaced page.text.now why → d ≡ null → IsOfCall page c d
  defined : (ts : List Word) → ArePlaced page.text.now ts → d ≡ help_by page c.commas (definition (word_of c) (name_in page c) ts) → IsOfCall page c d

-- What is told at a place: nothing, where what stands before it cannot be cut into tokens, or where the place is in no call.
pub data IsHelp (page : Page) (at : ℕ) (d : Data) : Type 0 where
  unknown : (why : LexError) → IsUnplaced (take at page.text.now) why → d ≡ null → IsHelp page at d
  nowhere : (ts : List Word) → ArePlaced (take at page.text.now) ts → call_around ts ≡ None → d ≡ null → IsHelp page at d
  of_call : (ts : List Word) (c : PartialCall) → ArePlaced (take at page.text.now) ts → call_around ts ≡ Some c → IsOfCall page c d → IsHelp page at d
