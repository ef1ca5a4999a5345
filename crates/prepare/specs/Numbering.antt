-- The lines of a text, put where its markers say.
use Rattle.std.specs.Prelude.{ℕ, zero, suc, ◌+◌, ◌-◌, Bool, true, false, ◌||◌, ◌==◌, if◌then◌else◌, List, [], ◌∷◌, ◌++◌, length, take, drop, map, replicate, count_by, min, max, nat_eq, is_some, Option, Some, None}
use Rattle.std.specs.Str.{bytes_eq}
use Rattle.std.specs.List.{prefix_len, starts_with}
use Rattle.profile.specs.Characters.{line_feed}
use Rattle.prepare.specs.declared.TheConstants.{FORM_FEED}
use Rattle.promela_text.specs.Tokens.{is_in_line, is_line_feed}
use Rattle.prepare.specs.Marker.{Marker}
use Rattle.prepare.specs.Markers.{marker}
use Rattle.prepare.specs.Standing.{Standing}

-- the file that is the model's own, where a marker names this one
abbrev pub own_file : Standing → List ℕ → List ℕ
own_file s file = if s.is_named then s.own else file

abbrev pub is_own_file : Standing → List ℕ → Bool
is_own_file s file = bytes_eq (own_file s file) file

-- a line of an included file ends with a form feed, which is a blank
abbrev pub included : ℕ → ℕ
included b = if b == line_feed then FORM_FEED else b

-- what is written of a line: a line of the own file as it is, one of another file on the line of its `#include`, and of a marker of the own
-- file the line feeds that lead to its line
abbrev pub placed : Standing → Option Marker → List ℕ → List ℕ
placed s None line = if s.is_own then line else map included line
placed s (Some m) line = if is_own_file s m.file then replicate (m.line - s.line) line_feed else []

-- the line that is written to behind a line of the text: a marker leads no line back
abbrev pub line_after : Standing → Option Marker → List ℕ → ℕ
line_after s None line = if s.is_own then s.line + count_by is_line_feed line else s.line
line_after s (Some m) line = if is_own_file s m.file then max s.line m.line else s.line

abbrev pub stand_after : Standing → Option Marker → ℕ → Standing
stand_after s None n = record s { line = n }
stand_after s (Some m) n = record { is_named = true; own = own_file s m.file; is_own = is_own_file s m.file; line = n }

abbrev pub standing_behind : Standing → Option Marker → List ℕ → Standing
standing_behind s m line = stand_after s m (line_after s m line)

-- how long the first line is, with its line feed
abbrev pub line_length : List ℕ → ℕ
line_length text = min (prefix_len is_in_line text + 1) (length text)

abbrev pub first_line : List ℕ → List ℕ
first_line text = take (line_length text) text

-- the rest of a text, at most so many lines
unfoldable pub numbered_by : ℕ → Standing → List ℕ → List ℕ
numbered_by zero s text = []
numbered_by (suc n) s [] = []
numbered_by (suc n) s (b ∷ q) =
    let text = b ∷ q in
    let line = first_line text in
    placed s (marker line) line ++ numbered_by n (standing_behind s (marker line) line) (drop (line_length text) text)

abbrev pub first_standing : Standing
first_standing = record { is_named = false; own = []; is_own = true; line = 1 }

-- a text without its byte order mark
abbrev pub bare : List ℕ → List ℕ
bare text = if starts_with nat_eq text (239 ∷ 187 ∷ 191 ∷ []) then drop 3 text else text

-- the text with its lines where its markers say
abbrev pub numbered : List ℕ → List ℕ
numbered text = numbered_by (length text) first_standing text

-- the last line that the markers ask for: the line behind the text, as they count
unfoldable pub asked_by : ℕ → Standing → List ℕ → ℕ
asked_by zero s text = s.line
asked_by (suc n) s [] = s.line
asked_by (suc n) s (b ∷ q) =
    let text = b ∷ q in
    let line = first_line text in
    asked_by n (standing_behind s (marker line) line) (drop (line_length text) text)

abbrev pub lines_asked : List ℕ → ℕ
lines_asked text = asked_by (length text) first_standing text

-- whether some line is a marker
unfoldable pub has_marker_by : ℕ → List ℕ → Bool
has_marker_by zero text = false
has_marker_by (suc n) [] = false
has_marker_by (suc n) (b ∷ q) = is_some (marker (first_line (b ∷ q))) || has_marker_by n (drop (line_length (b ∷ q)) (b ∷ q))

abbrev pub has_marker : List ℕ → Bool
has_marker text = has_marker_by (length text) text
