-- Which token that the preprocessor left is one of a text that was prepared of them: on each line the tokens with the same bytes are the same, in order, if they are as many.
use Rattle.std.specs.Prelude.{ℕ, ◌+◌, ◌-◌, Bool, not, ◌&&◌, ◌||◌, ◌==◌, nat_lt, nat_le, max, if◌then◌else◌, List, [], ◌∷◌, length, Option, Some, None, slice_get, slice_index_or}
use Rattle.std.specs.Str.{bytes_eq}
use Rattle.pml_macros.specs.declared.atom.Atom.{Atom}
use Rattle.pml_macros.specs.declared.atom.FilePlace.{FilePlace}
use Rattle.pml_macros.specs.Texts.{text_in}
use Rattle.prepare.specs.Written.{Written}
use Rattle.prepare.specs.Stretches.{stretches}
use Rattle.source_lines.specs.Places.{number_at, start_at, line_at}
use Rattle.called_macros.specs.declared.origin.Origin.{Origin}

-- whether a token is of the body of a macro: its bytes stand in another file than the call that it came of, or before that; those of an argument stand behind it
abbrev pub is_body : Atom → Bool
is_body a = not (a.place.file == a.call.file) || nat_lt a.place.offset a.call.offset

-- on which line of the model's own file something is written: its line there, or that on which its file is included
abbrev pub home : List ℕ → FilePlace → ℕ
home homes p = if p.file == 0 then p.line else slice_index_or homes p.file 1

-- the tokens with these bytes on a line, where a line is written that no later token stands before
abbrev pub atoms_by : Origin → ℕ → List ℕ → ℕ → List Atom → List Atom
atoms_by o n t now [] = []
atoms_by o n t now (a ∷ back) =
    let here = max now (home o.homes.items a.call) in
    if here == n && bytes_eq (text_in o.book a.text) t then a ∷ atoms_by o n t here back else atoms_by o n t here back

abbrev pub atoms_on : Origin → ℕ → List ℕ → List Atom
atoms_on o n t = atoms_by o n t 1 o.atoms.items

-- the first token that has no less than so many bytes before it
abbrev pub token_at : ℕ → List Written → List ℕ
token_at left [] = []
token_at left (s ∷ ss) = if nat_le left (length s.gap) then s.token else token_at (left - length s.gap - length s.token) ss

-- n, and how many tokens with these bytes have fewer bytes before them
abbrev pub count_by : ℕ → List ℕ → ℕ → List Written → ℕ
count_by n t left [] = n
count_by n t left (s ∷ ss) =
    count_by (if nat_lt (length s.gap) left && bytes_eq s.token t then n + 1 else n) t (left - length s.gap - length s.token) ss

abbrev pub count_before : List ℕ → ℕ → List Written → ℕ
count_before t end ss = count_by 0 t end ss

-- of tokens the one behind so many, if they are as many as wanted, or the only one
abbrev pub chosen : List Atom → ℕ → ℕ → Option Atom
chosen (a ∷ []) wanted before = Some a
chosen as' wanted before = if length as' == wanted then slice_get as' before else None

abbrev pub body_alone : Option Atom → Option Atom
body_alone None = None
body_alone (Some a) = if is_body a then Some a else None

-- the token of the body of a macro that a token of a line is, behind so many of its bytes
abbrev pub called_on : Origin → ℕ → List ℕ → ℕ → Option Atom
called_on o n line onset =
    let ss = stretches line in
    let t = token_at onset ss in
    body_alone (chosen (atoms_on o n t) (count_before t (length line) ss) (count_before t onset ss))

-- the one that stands behind so many bytes of a text
abbrev pub called_at : Origin → List ℕ → ℕ → Option Atom
called_at o text at = called_on o (number_at text at) (line_at text at) (at - start_at text at)
