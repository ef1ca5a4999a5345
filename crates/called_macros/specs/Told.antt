-- How it is told where a token of a macro stands. Hold it against docs/FORMATS.md, 'Standard error'.
use Rattle.std.specs.Prelude.{ℕ, ◌-◌, if◌then◌else◌, List, [], ◌++◌, length, map, chars, codes, slice_index_or}
use Rattle.std.specs.List.{flat_map}
use Rattle.std.specs.Str.{is_utf8}
use Rattle.std.specs.Fmt.{decimal}
use Rattle.pml_macros.specs.declared.atom.Atom.{Atom}
use Rattle.pml_macros.specs.declared.atom.FilePlace.{FilePlace}
use Rattle.pml_macros.specs.Texts.{text_in}
use Rattle.source_lines.specs.Signs.{shown_character}
use Rattle.source_lines.specs.Places.{start_at, line_at}
use Rattle.source_lines.specs.Shown.{line_with_carets}
use Rattle.called_macros.specs.declared.origin.Origin.{Origin}

-- what a file is called, by its number
abbrev pub name_of : Origin → ℕ → List ℕ
name_of o file = slice_index_or (map (λ v. v.items) o.names.items) file []

-- the name of a file as it is shown; nothing where it is no UTF-8
abbrev pub name_told : List ℕ → List ℕ
name_told name = if is_utf8 name then flat_map shown_character (chars name) else []

abbrev pub file_told : Origin → ℕ → List ℕ
file_told o file = name_told (name_of o file)

abbrev pub place_told : Origin → FilePlace → List ℕ
place_told o p = file_told o p.file ++ (codes ":" ++ (decimal p.line ++ (codes ":" ++ decimal p.column)))

-- where a token of a macro stands, and where the macro is called that it came of
abbrev pub called_told : Origin → Atom → List ℕ
called_told o a =
    place_told o a.place ++ (codes ": it stands here, in a macro that is called at " ++ (place_told o a.call ++ codes "\n"))

-- its line, with carets below it
abbrev pub line_told : Origin → List ℕ → Atom → List ℕ
line_told o text a =
    line_with_carets a.place.line (line_at text a.place.offset) (a.place.offset - start_at text a.place.offset) (length (text_in o.book a.text))
