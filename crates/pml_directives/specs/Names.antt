-- Names that are known, and files by their names.
use Rattle.std.specs.Prelude.{◌≡◌, false, ℕ, ◌+◌, ◌*◌, ◌-◌, ◌==◌, Bool, ◌&&◌, ◌||◌, nat_le, if◌then◌else◌, List, [], ◌∷◌, ◌++◌, Option, None, Some, is_some, option_map, min, ◌^◌, codes}
use Rattle.std.specs.List.{flat_map, list_any}
use Rattle.std.specs.Str.{bytes_eq}
use Rattle.pml_macros.specs.declared.atom.Atom.{Atom}
use Rattle.pml_macros.specs.declared.atom.FilePlace.{FilePlace}
use Rattle.pml_directives.specs.declared.whole.TheConstants.{MOST_LINE}
use Rattle.pml_macros.specs.Calls.{same_sort, known}
use Rattle.pml_macros.specs.declared.table.MacroTable.{MacroTable}
use Rattle.pml_macros.specs.declared.atom.AtomSort.TheVariants as sort
use Rattle.pml_macros.specs.declared.table.BodyToken.{BodyToken}
use Rattle.pml_macros.specs.declared.book.Book.{Book}
use Rattle.pml_macros.specs.Texts.{text_in}
use Rattle.pml_directives.specs.declared.state.Shift.{Shift}

-- the macros that no text defines
abbrev pub is_built_in : List ℕ → Bool
is_built_in t = bytes_eq t (codes "__LINE__") || bytes_eq t (codes "__FILE__")

-- a token is the name of a macro
unfoldable pub is_macro : MacroTable → Atom → Bool
is_macro t a = same_sort a.sort sort.Name && is_some (known t a.text)

-- some token is
abbrev pub names_macro : MacroTable → List Atom → Bool
names_macro t as' = list_any (is_macro t) as'

-- one of these tokens is a `>`
abbrev pub is_closed : Book → List Atom → Bool
is_closed b as' = list_any (λ a. bytes_eq (text_in b a.text) (codes ">")) as'

-- a byte within quotes
abbrev pub escaped : ℕ → List ℕ
escaped b = if b == 34 || b == 92 then 92 ∷ b ∷ [] else b ∷ []

-- a name as a string
abbrev pub quoted : List ℕ → List ℕ
quoted name = (34 ∷ flat_map escaped name) ++ 34 ∷ []

-- the number that digits are, behind those of this number
abbrev pub line_from : ℕ → List ℕ → Option ℕ
line_from n [] = Some n
line_from n (b ∷ t) = if (nat_le 48 b && nat_le b 57) && nat_le n MOST_LINE then line_from (10 * n + (b - 48)) t else None

-- where a line begins
abbrev pub place_of : List Atom → FilePlace → FilePlace
place_of [] end = end
place_of (a ∷ as') end = a.place

-- what a `#line` says of the lines behind it
abbrev pub shift_of : Book → List Atom → FilePlace → Option Shift
shift_of b [] p = None
shift_of b (a ∷ as') p = option_map (λ n. record { from = min (p.line + 1) (2 ^ 32 - 1); to = n }) (line_from 0 (text_in b a.text))

-- `once` stands there
abbrev pub is_once : Book → List Atom → Bool
is_once b [] = false
is_once b (a ∷ as') = bytes_eq (text_in b a.text) (codes "once")

-- the file that a `#pragma` says is read once
abbrev pub once_by : Book → List Atom → FilePlace → List ℕ
once_by b as' p = if is_once b as' then p.file ∷ [] else []

-- a name stands there
abbrev pub is_named : List Atom → Bool
is_named [] = false
is_named (a ∷ as') = same_sort a.sort sort.Name

-- two tokens of bodies have the same text and the same role
pub record SamePart (a b : BodyToken) : Type 0 where
  pub text : a.atom.text ≡ b.atom.text
  pub role : a.role ≡ b.role
  pub joined : a.is_joined ≡ b.is_joined
