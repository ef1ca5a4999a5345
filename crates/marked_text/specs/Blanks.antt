-- How many blanks stand before a token.
use Rattle.std.specs.Prelude.{ℕ, ◌+◌, ◌-◌, ◌^◌, ◌==◌, Bool, true, false, ◌&&◌, if◌then◌else◌, min, max, List, [], ◌∷◌, length, Option, None, Some, slice_index_or}
use Rattle.pml_macros.specs.declared.book.Book.{Book}
use Rattle.pml_macros.specs.declared.atom.Atom.{Atom}
use Rattle.pml_macros.specs.declared.atom.FilePlace.{FilePlace}
use Rattle.pml_macros.specs.Texts.{text_in}
use Rattle.marked_text.specs.declared.written.TheConstants.{MOST_BLANKS}

-- on which line of the model's own file a file is included
abbrev pub home_of : List ℕ → ℕ → ℕ
home_of homes file = slice_index_or homes file 1

-- a place is in the file of another, so many bytes behind it
abbrev pub is_behind : FilePlace → FilePlace → ℕ → Bool
is_behind p q n = p.file == q.file && p.offset == min (q.offset + n) (2 ^ 64 - 1)

abbrev pub same_place : FilePlace → FilePlace → Bool
same_place p q = p.file == q.file && (p.offset == q.offset && (p.line == q.line && p.column == q.column))

-- a token that comes of no call
abbrev pub is_own : Atom → Bool
is_own a = same_place a.place a.call

-- it stands directly behind another in their file
abbrev pub adjoins : Book → Option Atom → Atom → Bool
adjoins b None a = false
adjoins b (Some l) a = (is_own l && is_own a) && is_behind a.place l.place (length (text_in b l.text))

abbrev pub begins_hash : List ℕ → Bool
begins_hash [] = false
begins_hash (b ∷ t) = b == 35

-- before the first token of a line: those that its line has there, and one at least before a `#`
abbrev pub indent : List ℕ → FilePlace → ℕ
indent t p =
    let n = min (p.column - 1) MOST_BLANKS in
    if begins_hash t then max n 1 else n

abbrev pub blanks_before : Book → Option Atom → Atom → Bool → ℕ
blanks_before b last a is_fresh = if is_fresh then indent (text_in b a.text) a.call else (if adjoins b last a then 0 else 1)
