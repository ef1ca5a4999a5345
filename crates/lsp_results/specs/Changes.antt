-- What changes make of a text (LSP 3.17, `textDocument/didChange`).
use Rattle.std.specs.Prelude.{ℕ, max, List, [], ◌∷◌, ◌++◌, take, drop, Option, Some, None, codes, option_and_then}
use Rattle.serde_json.specs.Data.{Data}
use Rattle.serde_json.specs.Find.{get}
use Rattle.serde_json.specs.View.{view}
use Rattle.serde_json.specs.declared.value.Value.{Value}
use Rattle.text_parts.specs.declared.places.ColumnUnit.{ColumnUnit}
use Rattle.text_parts.specs.declared.places.EditorPlace.{EditorPlace}
use Rattle.text_parts.specs.Offsets.{offset_of}
use Rattle.lsp_results.specs.Asked.{place_in, text_in}

-- another text in place of what stands from one place to another; nothing is taken out, where that lies before
abbrev pub replaced : List ℕ → ℕ → ℕ → List ℕ → List ℕ
replaced text from to new = take from text ++ (new ++ drop (max from to) text)

-- the place of this name
abbrev pub end_in : List ℕ → Data → Option EditorPlace
end_in k d = option_and_then place_in (get k d)

abbrev pub changed_between : ColumnUnit → List ℕ → List ℕ → Option EditorPlace → Option EditorPlace → List ℕ
changed_between u text new (Some p) (Some q) = replaced text (offset_of u p text) (offset_of u q text) new
changed_between u text new p q = text

abbrev pub changed_in : ColumnUnit → List ℕ → List ℕ → Option Data → List ℕ
changed_in u text new None = new
changed_in u text new (Some r) = changed_between u text new (end_in (codes "start") r) (end_in (codes "end") r)

-- The text behind a change: a change without a range has the whole of it, and one whose range names no places changes nothing.
abbrev pub changed : ColumnUnit → List ℕ → Data → List ℕ
changed u text d = changed_in u text (text_in (codes "text") d) (get (codes "range") d)

-- behind changes, one after the other
abbrev pub all_changed : ColumnUnit → List ℕ → List Value → List ℕ
all_changed u text [] = text
all_changed u text (v ∷ vs) = all_changed u (changed u text (view v)) vs
