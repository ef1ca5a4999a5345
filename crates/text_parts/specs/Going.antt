-- Places as one goes over bytes: a line feed leads to the next line, any other byte as many columns further as it has units.
use Rattle.std.specs.Prelude.{ℕ, zero, suc, ◌+◌, if◌then◌else◌, List, [], ◌∷◌}
use Rattle.source_lines.specs.Places.{is_line_feed}
use Rattle.text_parts.specs.declared.places.ColumnUnit.{ColumnUnit}
use Rattle.text_parts.specs.declared.places.EditorPlace.{EditorPlace}
use Rattle.text_parts.specs.Offsets.{units_in}

-- a place of a line and a column
abbrev pub at_place : ℕ → ℕ → EditorPlace
at_place l c = record { line = l; column = c }

-- the first place of a text
abbrev pub start : EditorPlace
start = at_place 0 0

-- behind one more byte
abbrev pub stepped : ColumnUnit → EditorPlace → ℕ → EditorPlace
stepped u p b = if is_line_feed b then at_place (p.line + 1) 0 else at_place p.line (p.column + units_in u b)

-- behind bytes
abbrev pub gone : ColumnUnit → EditorPlace → List ℕ → EditorPlace
gone u p [] = p
gone u p (b ∷ bs) = gone u (stepped u p b) bs

-- the place that lies so far behind another: on its line so many columns further, or so many lines below it in that column
abbrev pub moved : EditorPlace → ℕ → ℕ → EditorPlace
moved p zero c = at_place p.line (p.column + c)
moved p (suc l) c = at_place (p.line + suc l) c
