-- What the condition of an `#if` line is worth.
use Rattle.std.specs.Prelude.{List, [], ◌∷◌, ◌||◌, ℤ, nat_eq, is_some, codes, map, slice_index_or, ℕ, ◌-◌, Bool, ◌&&◌, nat_le, if◌then◌else◌, Option, None, Some, pos}
use Rattle.pml_macros.specs.declared.atom.Atom.{Atom}
use Rattle.pml_macros.specs.declared.book.Book.{Book}
use Rattle.pml_macros.specs.Texts.{text_in}
use Rattle.std.specs.List.{list_any}

-- the text of a token, by its place
abbrev pub text_at : Book → List Atom → ℕ → List ℕ
text_at b as' n = slice_index_or (map (λ a. text_in b a.text) as') n []

-- the digit that a byte is, of at most sixteen
abbrev pub digit : ℕ → Option ℕ
digit b =
    if nat_le 48 b && nat_le b 57 then Some (b - 48) else (
    if nat_le 97 b && nat_le b 102 then Some (b - 87) else (
    if nat_le 65 b && nat_le b 70 then Some (b - 55) else None))

-- the number of a byte behind a backslash, of those that have one
abbrev pub escaped_worth : ℕ → Option ℤ
escaped_worth b =
    if nat_eq b 110 then Some (pos 10)
    else if nat_eq b 116 then Some (pos 9)
    else if nat_eq b 114 then Some (pos 13)
    else if nat_eq b 48 then Some (pos 0)
    else if nat_eq b 92 then Some (pos 92)
    else if nat_eq b 39 then Some (pos 39)
    else if nat_eq b 34 then Some (pos 34)
    else None

-- the number of a character in quotes
abbrev pub character_worth : List ℕ → Option ℤ
character_worth (open_quote ∷ b ∷ closing ∷ []) = Some (pos b)
character_worth (open_quote ∷ backslash ∷ b ∷ closing ∷ []) = if nat_eq backslash 92 then escaped_worth b else None
character_worth _ = None

-- a digit of some base, or a letter of the suffix of a number
abbrev pub is_of_number : ℕ → Bool
is_of_number b = list_any (nat_eq b) (codes "uUlL") || is_some (digit b)
